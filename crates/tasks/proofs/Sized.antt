-- Each task declares on each object.
use Rattle.std.proofs.Common.{◌≡◌, ℕ, length, Some, sym, ap, ◌∙◌, arith}
use Rattle.std.specs.List.{slice_get}
use Rattle.std.proofs.lemmas.Option.{slice_get_within}
use Rattle.working.specs.Tasks.{Task}
use Rattle.working.specs.Steps.{model_of}
use Rattle.working.proofs.Sections.{length_declared}
use Rattle.tasks.specs.declared.tasks.Tasks.{Tasks}
use Rattle.tasks.specs.Views.{store_of, tasks_of}
use Rattle.tasks.proofs.Rooms.{sizes_at}
use Rattle.tasks.proofs.Numbered.{some_of}

pub declared_sized : (s : Tasks) (n : ℕ) (t : Task) → slice_get (tasks_of s) n ≡ Some t → length t.declared ≡ length (store_of s)
declared_sized s n t e =
    let p = some_of model_of s.tasks.items n t e in
    ap (λ (u : Task). length u.declared) (sym p.2) ∙ length_declared p.0.own
    ∙ sizes_at s.tasks.items n p.0 s.tasks.len s.store.len p.1 (omega (arith, slice_get_within s.tasks.items n p.0 p.1, s.tasks.ok.0)) s.sized
    ∙ s.store.ok.0
