use Rattle.std.proofs.Common.{◌≡◌, ℕ, ◌+◌, List, [], ◌∷◌, length, Ok, Result, sym, ap, ◌∙◌, subst, arith}
use Rattle.working.specs.declared.declared.Declared.{Declared}
use Rattle.working.specs.declared.fault.Fault.{Fault}
use Rattle.working.specs.Tasks.{Task}
use Rattle.runs.specs.Lines.{waiting, member, replace}
use Rattle.tasks.specs.declared.step.Progress.{Progress}
use Rattle.tasks.specs.declared.step.Progress.TheVariants.{Made}
use Rattle.tasks.specs.Views.{tasks_of}
use Rattle.lines.specs.declared.line.Line.{Line}
use Rattle.lines.specs.Changes.{Narrower}
use Rattle.lines.specs.Lines.{object_count, declarations, line_of, Tells, ButBoth}
use Rattle.bench.specs.Follows.{declared_at, FitsLine, RoomFor, Followed}
use Rattle.bench.proofs.follow.follow.Goals.{In-Ok-Made}
use Rattle.bench.proofs.follow.follow.Goals as goal

-- as many tasks as before
same : (a b : ℕ) → a ≡ b → a ≡ b + 0
same a b e = omega arith

pub returns-in-Err : goal.returns-in-Err
returns-in-Err c =
    let e = c.stick.ensures in
    subst (λ (p : Result Progress Fault). Followed (tasks_of c.args.tasks.now) c.args.n p c.args.line.now c.stick.new.self) (sym c.in-Err.is)
    (record { line = e.line; tells = e.tells; objects = e.sized.0; made = same _ _ e.sized.1 })

pub returns-in-Ok-Went : goal.returns-in-Ok-Went
returns-in-Ok-Went c =
    let e = c.wait.ensures in
    subst (λ (p : Result Progress Fault). Followed (tasks_of c.args.tasks.now) c.args.n p c.args.line.now c.wait.new.self) (sym (c.in-Ok-Went.is ∙ ap Ok (rw c.in-Ok-Went.is at c.in-Ok-Went.field-0-is)))
    (record { line = e.line; tells = e.tells; objects = e.sized.0; made = same _ _ e.sized.1 })

pub returns-in-Ok-Amended : goal.returns-in-Ok-Amended
returns-in-Ok-Amended c =
    let e = c.redeclare.ensures in
    subst (λ (p : Result Progress Fault). Followed (tasks_of c.args.tasks.now) c.args.n p c.args.line.now c.redeclare.new.self) (sym (c.in-Ok-Amended.is ∙ ap Ok (rw c.in-Ok-Amended.is at c.in-Ok-Amended.field-0-is)))
    (record { line = e.line; tells = λ t u d h. e.tells t u d (h ∙ sym c.declared.ensures); objects = e.sized.0; made = same _ _ e.sized.1 })

pub returns-in-Ok-Finished : goal.returns-in-Ok-Finished
returns-in-Ok-Finished c =
    let e = c.finish.ensures in
    subst (λ (p : Result Progress Fault). Followed (tasks_of c.args.tasks.now) c.args.n p c.args.line.now c.finish.new.self) (sym (c.in-Ok-Finished.is ∙ ap Ok (rw c.in-Ok-Finished.is at c.in-Ok-Finished.field-0-is)))
    (record { line = e.line; tells = λ t u d h. e.tells t u d; objects = e.sized.0; made = same _ _ e.sized.1 })

-- the child has the number that the line gave it
entered : (ts : List Task) (n child r : ℕ) (l l' : Line) (ds : List Declared) → child ≡ r → ds ≡ declared_at ts child
    → ((t u : ℕ → Task) → ButBoth n r t u → line_of l' u ≡ replace n (member r waiting (u r) ∷ member n waiting (u n) ∷ []) (line_of l t))
    → ((t u : ℕ → Task) → ButBoth n r t u → (u n).declared ≡ (t n).declared → (u r).declared ≡ ds → Tells l t → Tells l' u)
    → object_count l' ≡ object_count l → l'.made ≡ l.made + 1 → Followed ts n (Ok (Made child)) l l'
entered ts n child r l l' ds e d line tells o m =
    subst (λ (k : ℕ). Followed ts n (Ok (Made k)) l l') (sym e)
    (record { line = line; tells = λ t u b h w. tells t u b h.0 (h.1 ∙ ap (declared_at ts) (sym e) ∙ sym d) w; objects = o; made = m })

room : (c : In-Ok-Made) → RoomFor c.args.line.now c.args.n c.in-Ok-Made.child (declared_at (tasks_of c.args.tasks.now) c.in-Ok-Made.child)
room c = subst (FitsLine c.args.line.now (tasks_of c.args.tasks.now) c.args.n) (c.in-Ok-Made.is ∙ ap Ok (rw c.in-Ok-Made.is at c.in-Ok-Made.field-0-is)) c.requires

pub enter-requires : goal.enter-requires
enter-requires c =
    let r = room (goal.at.enter-requires c).In-Ok-Made in
    record {
      room = r.room;
      live = r.live;
      sized = ap length c.declared-in-Ok-Made.ensures ∙ r.narrowed.sized;
      narrower = subst (Narrower (declarations c.args.line.now c.args.n)) (sym c.declared-in-Ok-Made.ensures) r.narrowed.narrower;
    }

pub returns-in-Ok-Made : goal.returns-in-Ok-Made
returns-in-Ok-Made c =
    let e = c.enter.ensures in
    let ts = tasks_of c.args.tasks.now in
    let r = room (goal.at.returns-in-Ok-Made c).In-Ok-Made in
    subst (λ (p : Result Progress Fault). Followed ts c.args.n p c.args.line.now c.enter.new.self) (sym (c.in-Ok-Made.is ∙ ap Ok (rw c.in-Ok-Made.is at c.in-Ok-Made.field-0-is)))
    (entered ts c.args.n c.in-Ok-Made.child c.enter.result c.args.line.now c.enter.new.self c.declared-in-Ok-Made.result.now (r.next ∙ sym e.number) c.declared-in-Ok-Made.ensures e.line e.tells e.objects e.made)
