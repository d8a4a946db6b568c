use Rattle.std.proofs.Common.{◌≡◌, map, Some, sym, ap, ◌∙◌, arith}
use Rattle.std.specs.Prelude.{unwrap_or}
use Rattle.std.proofs.lemmas.List.{length-map}
use Rattle.token_stream.proofs.Looking.{first_index}
use Rattle.token_stream.proofs.table.TokenTableIntStream.index.Goals as goal

pub returns-clause-token_index : goal.returns-clause-token_index
returns-clause-token_index g c =
    let s = c.args.self.now in
    let tape = map g.T.Token.fields s.tokens.now in
    let first = first_index tape s.place (omega (arith, s.inside, length-map s.tokens.now g.T.Token.fields)) s.sound in
    let given : c.token_index.result ≡ Some s.place = c.token_index.ensures ∙ ap (λ t. t.index) c.ahead.ensures ∙ first in
    first ∙ ap Some (sym (c.unwrap_or.ensures ∙ ap (λ o. unwrap_or o 0) given))
