use Rattle.std.proofs.Common.{◌≡◌, ℕ, List, [], ◌∷◌, ◌++◌, length, map, replicate, sym, ap, ◌∙◌, arith}
use Rattle.std.proofs.lemmas.List.{length-map}
use Rattle.kinds.specs.Kinds.{Kind}
use Rattle.cards.specs.Bounds.{task_bound}
use Rattle.cards.specs.Code.{Card}
use Rattle.cards.specs.Trees.{block_of}
use Rattle.working.specs.declared.record.Record.{Record}
use Rattle.working.specs.declared.task.Task.{Task}
use Rattle.working.specs.declared.work.Fresh.{Fresh}
use Rattle.working.specs.Tasks.{main, starting_words}
use Rattle.working.proofs.Begins.{fresh_main}
use Rattle.working.specs.Steps.{model_of}
use Rattle.working.specs.Works.{ranks_of}
use Rattle.working.specs.Records.{MainRecord}
use Rattle.working.specs.Steps.{fresh_task}
use Rattle.tasks.specs.Rooms.{to_make, sizes}
use Rattle.tasks.proofs.tasks.Tasks.open.Given as given
use Rattle.tasks.proofs.tasks.Tasks.open.Goals as goal
use Rattle.tasks.proofs.tasks.Tasks.open.Goals.{In_ok-starting_words}

-- as many words as the card has
words : (g : given.Over) (c : In_ok-starting_words g) → c.in_ok-starting_words.field-0.len ≡ c.args.card.now.words.len
unfolding starting_words
words g c =
    let d = c.args.card.now in
    let v = c.in_ok-starting_words.field-0 in
    v.ok.0 ∙ ap length c.in_ok-starting_words.ensures ∙ length-map d.words.items (g.K.ValueKind.kind c.args.kind.now).literal ∙ sym d.words.ok.0

pub invariant_of-tasks : goal.invariant_of-tasks
unfolding to_make sizes
invariant_of-tasks g c =
    let r = c.in_ok-with_capacity.ensures in
    let n = c.in_ok-starting_words.field-0.len in
    record {
      objects = omega (arith, c.args.card.now.objects, words g (goal.at.invariant_of-tasks g c).In_ok-starting_words);
      sized = ap sizes r.items ∙ sym (ap (λ (x : ℕ). replicate x n) r.len);
      few = omega (arith, r.len, ap to_make r.items);
      tasks_room = r.capacity;
      frames_room = omega (arith, c.in_ok-room.ensures);
    }

pub add-requires : goal.add-requires
unfolding to_make
add-requires g c =
    let d = c.args.card.now in
    let r = c.in_ok-with_capacity.ensures in
    record {
      room = omega (arith, r.len, ap to_make r.items, d.tasks, ap task_bound c.main-2.ensures.body);
      sized = c.main.ensures.objects ∙ sym d.words.ok.0 ∙ sym (words g (goal.at.add-requires g c).In_ok-starting_words);
    }

alone : (k : Kind) (d : Card) (ts : List Task) (own : Record) (f : Fresh) → ts ≡ [] → MainRecord k d own → block_of f.body.now ≡ d.body → ranks_of f.place ≡ [] → map model_of ts ++ fresh_task own f ∷ [] ≡ main k d ∷ []
alone k d ts own f e h b p = ap (λ (l : List Task). map model_of l ++ fresh_task own f ∷ []) e ∙ ap (λ t. t ∷ []) (fresh_main k d own f h b p)

pub returns : goal.returns
returns g c =
    let a = c.add.ensures in
    let f = c.main-2.ensures in
    (a.words ∙ c.in_ok-starting_words.ensures, a.tasks ∙ alone _ _ c.in_ok-with_capacity.field-0.items c.main.result c.main-2.result c.in_ok-with_capacity.ensures.items c.main.ensures f.body f.place)
