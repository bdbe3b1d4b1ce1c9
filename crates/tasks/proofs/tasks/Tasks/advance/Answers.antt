use Rattle.std.proofs.Common.{◌≡◌, ℕ, List, Some, sym, refl, ◌∙◌, subst, arith}
use Rattle.std.specs.List.{slice_get}
use Rattle.std.proofs.lemmas.List.{with_items_is}
use Rattle.std.proofs.lemmas.Option.{slice_get_read}
use Rattle.working.specs.Steps.{Answered, ChildSized}
use Rattle.tasks.proofs.Rooms.{to_make_set, step_makes, sizes_set, sizes_at}
use Rattle.tasks.proofs.tasks.Tasks.advance.Given as given
use Rattle.tasks.proofs.tasks.Tasks.advance.Goals as goal
use Rattle.tasks.proofs.tasks.Tasks.advance.Goals.{After-index_mut}

found : (g : given.Over) (c : After-index_mut g) → slice_get c.args.self.now.tasks.items c.args.i ≡ Some c.index_mut.result.now
found g c = let v = c.args.self.now.tasks in slice_get_read v.items v.len c.args.i c.index_mut.result.now v.ok.0 c.requires c.index_mut.ensures.value

sized : (g : given.Over) (c : After-index_mut g) → c.index_mut.result.now.own.objects ≡ c.args.self.now.store.len
sized g c = let s = c.args.self.now in sizes_at s.tasks.items c.args.i c.index_mut.result.now s.tasks.len s.store.len (found g c) c.requires s.sized

pub step-requires : goal.step-requires
step-requires g c = omega (arith, sized g (goal.at.step-requires g c).After-index_mut, c.deref_mut.ensures.len)

pub invariant_of-self : goal.invariant_of-self
invariant_of-self g c =
    let s = c.args.self.now in
    let i = c.args.i in
    let t = c.index_mut.result.now in
    let a = c.step in
    let e = found g (goal.at.invariant_of-self g c).After-index_mut in
    let n = to_make_set s.tasks.items i t a.new.self e in
    let m = step_makes _ t a.new.self _ _ _ a.ensures.answer in
    record {
      objects = s.objects;
      sized = sizes_set s.tasks.items i t a.new.self e a.ensures.objects ∙ s.sized;
      few = omega (arith, s.few, n, m);
      tasks_room = s.tasks_room;
      frames_room = s.frames_room;
    }

pub returns : goal.returns
returns g c =
    let s = c.args.self.now in
    let k = g.K.ValueKind.kind c.args.kind.now in
    let t = c.index_mut.result.now in
    let a = c.step in
    let e = with_items_is s.store a.new.store (a.auto.store ∙ c.deref_mut.ensures.len) in
    let m = subst (λ (l : List ℕ). Answered k t l a.result a.new.self a.new.store) c.deref_mut.ensures.value a.ensures.answer in
    record {
      before = t;
      after = a.new.self;
      found = found g (goal.at.returns g c).After-index_mut;
      tasks = refl;
      answer = subst (λ (l : List ℕ). Answered k t s.store.items a.result a.new.self l) (sym e) m;
      count = refl;
      objects = refl;
      kept = a.ensures.kept;
      sized = subst (λ (n : ℕ). ChildSized n a.result) (sized g (goal.at.returns g c).After-index_mut) a.ensures.sized;
    }
