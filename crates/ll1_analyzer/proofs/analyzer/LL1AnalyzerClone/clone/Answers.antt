use Rattle.std.proofs.Common.{◌≡◌, ap}
use Rattle.std.proofs.Props.{props}
use Rattle.atn_graph.specs.contracts.graph.Graph as graph
use Rattle.ll1_analyzer.specs.declared.analyzer.LL1Analyzer.{LL1Analyzer}
use Rattle.ll1_analyzer.proofs.analyzer.LL1AnalyzerClone.clone.Goals as goal

-- a walker over the same net with the same nullable states is the same
same_walker : (w : LL1Analyzer) (p : w.nullables.graph.now ≡ w.atn.now.graph) → record { atn = w.atn; nullables = w.nullables; of_the_net = p } ≡ w
same_walker w p =
    let once : (x y : w.nullables.graph.now ≡ w.atn.now.graph) → x ≡ y = Prim.hlevel (props, graph.the_row.coded) in
    ap (λ q. record { atn = w.atn; nullables = w.nullables; of_the_net = q }) (once p w.of_the_net)

pub returns : goal.returns
returns c = record { cases = same_walker c.args.self.now _ }
