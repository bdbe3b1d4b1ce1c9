-- The declarations that a record has.
use Rattle.std.proofs.Common.{◌≡◌, ℕ, ◌≤◌, List, length, take, replicate, sym, ap, ◌∙◌, arith, length-take}
use Rattle.std.proofs.lemmas.List.{take-replicate}
use Rattle.working.specs.Tasks.{Declared, nothing}
use Rattle.working.specs.declared.record.Record.{Record}
use Rattle.working.specs.Records.{declared_of}

-- the first n of sixteen that declare nothing
pub take_nothing : (ds : List Declared) (n : ℕ) → n ≤ 16 → length ds ≡ 16 → take n (replicate 16 nothing) ≡ replicate (length (take n ds)) nothing
take_nothing ds n h e = take-replicate n 16 nothing h ∙ ap (λ (m : ℕ). replicate m nothing) (sym (length-take n ds ∙ omega (arith, e)))

-- a record declares on each object
pub length_declared : (r : Record) → length (declared_of r) ≡ r.objects
length_declared r = simp length-take (omega (arith, r.few, r.wide))
