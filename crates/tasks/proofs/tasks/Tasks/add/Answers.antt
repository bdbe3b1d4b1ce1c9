use Rattle.std.proofs.Common.{ℕ, [], ◌∷◌, ◌++◌, length, map, replicate, Option, sym, refl, ap, ◌∙◌, arith}
use Rattle.std.specs.Option.{option_to_list}
use Rattle.std.proofs.lemmas.List.{map_push}
use Rattle.cards.specs.Bounds.{task_bound}
use Rattle.working.specs.Tasks.{Task}
use Rattle.working.specs.Steps.{model_of}
use Rattle.working.specs.declared.work.Frames.{Frames}
use Rattle.working.specs.declared.record.Record.{Record}
use Rattle.tasks.specs.Rooms.{to_make, sizes}
use Rattle.tasks.specs.Views.{tasks_of}
use Rattle.tasks.proofs.Numbered.{length_tasks}
use Rattle.tasks.proofs.Rooms.{to_make_push, sizes_push}
use Rattle.tasks.proofs.tasks.Tasks.add.Goals as goal

pub invariant_of-self : goal.invariant_of-self
invariant_of-self c =
    let s = c.args.self.now in
    let p = c.push_reserved.ensures in
    let t = c.begin.result in
    let made = ap to_make p.items ∙ to_make_push s.tasks.items t in
    let few = ap (λ (x : Task). task_bound x.work) c.begin.ensures.task in
    let all = sizes_push s.tasks.items t s.tasks.len s.store.len s.sized (ap (λ (r : Record). r.objects) c.begin.ensures.own ∙ c.requires.sized) in
    let one = ap (λ (o : Option Frames). length (option_to_list o)) c.unwrap-frames.ensures in
    record {
      objects = s.objects;
      sized = ap sizes p.items ∙ all ∙ ap (λ (n : ℕ). replicate n s.store.len) (sym p.len);
      few = omega (arith, c.requires.room, made, few, p.len);
      tasks_room = omega (arith, s.tasks_room, p.capacity);
      frames_room = omega (arith, s.frames_room, c.pop.ensures.len, one, p.len);
    }

pub returns : goal.returns
returns c =
    let s = c.args.self.now in
    record {
      number = c.len-number.ensures ∙ sym (length_tasks s);
      words = refl;
      tasks =
          ap (map model_of) c.push_reserved.ensures.items
          ∙ map_push model_of s.tasks.items c.begin.result
          ∙ ap (λ (t : Task). tasks_of s ++ t ∷ []) c.begin.ensures.task;
    }
