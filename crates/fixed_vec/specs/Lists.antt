-- What a bounded list holds, and what lies behind it.
use Rattle.std.specs.Prelude.{List, take, drop}
use Rattle.fixed_vec.specs.declared.bounded_list.BoundedList.{BoundedList}

-- the items, in their order
abbrev pub listed : {T : Type 0} → BoundedList T → List T
listed l = take l.len l.slots.now

-- the free places, as they lie in the memory
abbrev pub spare : {T : Type 0} → BoundedList T → List T
spare l = drop l.len l.slots.now
