-- A step by the code is a step of the model.
use Rattle.std.proofs.Common.{◌≡◌, ℕ, ◌+◌, ◌<◌, ◌≤◌, Bool, true, false, List, [], ◌∷◌, ◌++◌, length, set, is_some, is_ok, IsOkAnd, MatchResult, Some, None, Ok, Err, Option, Result, sym, refl, ap, ◌∙◌, subst, arith}
use Rattle.std.specs.List.{slice_get}
use Rattle.std.specs.Option.{option_map_or}
use Rattle.std.specs.Int.{from_bool}
use Rattle.std.proofs.lemmas.List.{length-set, length-append}
use Rattle.kinds.specs.Kinds.{Kind}
use Rattle.working.specs.declared.declared.Declared.{Declared}
use Rattle.working.specs.declared.fault.Fault.{Fault}
use Rattle.working.specs.Tasks.{Task, level}
use Rattle.working.specs.Requests.{goes, makes, Request, fault, quiet, read, write, join, request, stored, Reply, faulted, stepped, reply}
use Rattle.working.specs.Serial.{segment}
use Rattle.working.proofs.Fine.{Within, fine_reply}
use Rattle.runs.specs.Lines.{Status, out, Member, member, with_status, find, replace}
use Rattle.runs.specs.Benches.{Bench, bench}
use Rattle.runs.specs.Steps.{marked, after_reply, replied, step, put, advanced}
use Rattle.runs.specs.declared.refusal.Refusal.TheVariants.{Foreign}
use Rattle.runs.specs.Calls.{Answer}
use Rattle.runs.specs.Answers.{reply_answer, step_answer}
use Rattle.runs.specs.Left.{left}
use Rattle.runs.proofs.Lines.{found, replace_replaced}
use Rattle.runs.proofs.Left.{step_falls}
use Rattle.runs.proofs.Events.{put_found, advanced_found}
use Rattle.runs.proofs.Turns.{marked_find}
use Rattle.tasks.specs.declared.tasks.Tasks.{Tasks}
use Rattle.tasks.specs.declared.step.Progress.{Progress}
use Rattle.tasks.specs.declared.step.Progress.TheVariants.{Went, Amended, Finished, Made}
use Rattle.tasks.specs.Views.{store_of, tasks_of, declared_by}
use Rattle.tasks.specs.Steps.{after, Says, StepOf, Steps}
use Rattle.tasks.proofs.Numbered.{get_set, length_tasks}
use Rattle.tasks.proofs.Arms.{stored_fault}
use Rattle.tasks.proofs.Sized.{declared_sized}
use Rattle.lines.specs.declared.line.Line.{Line}
use Rattle.lines.specs.States.{is_finished}
use Rattle.lines.specs.Lines.{object_count, state_of, declarations, line_of, Tells}
use Rattle.lines.proofs.Sames.{equal_declarations}
use Rattle.bench.specs.Tasks.{task_at}
use Rattle.bench.specs.Follows.{declared_at, Narrowed, RoomFor, FitsLine, added, Followed}
use Rattle.bench.specs.Views.{performed}
use Rattle.bench.proofs.TasksAt.{at_known}
use Rattle.bench.proofs.Followed.{in_place, tasks_made, Follows, follows, declares}

length_stored : (k : Kind) (m : List ℕ) (q : Request) → length (stored k m q) ≡ length m
unfolding stored
length_stored k m (fault f l) = refl
length_stored k m (quiet x) = refl
length_stored k m (read o x) = refl
length_stored k m (write o w x) = length-set m o w
length_stored k m (join o w x) = length-set m o _

nth_last : (ts : List Task) (u : Task) → slice_get (ts ++ u ∷ []) (length ts) ≡ Some u
nth_last [] u = refl
nth_last (t ∷ ts) u = nth_last ts u

-- A task that was made steps.

pub some_step : (k : Kind) (n : ℕ) (s s' : Tasks) (o : Option (Result Progress Fault)) → n < length (tasks_of s) → Steps k n s o s' → is_some o ≡ true
some_step k n s s' None lt h = absurd (omega (arith, h.0))
some_step k n s s' (Some a) lt h = refl

pub step_of : (k : Kind) (n : ℕ) (s s' : Tasks) (o : Option (Result Progress Fault)) (a : Result Progress Fault) → o ≡ Some a → Steps k n s o s' → (t : Task) × StepOf k n t s a s'
step_of k n s s' o a e h = subst (λ (x : Option (Result Progress Fault)). Steps k n s x s') e h

-- What is answered.

unfoldable counted : Reply → ℕ
counted (faulted f l) = 0
counted (stepped x) = 1

-- of what a step came to, whether it is done
abbrev pub come_of : Result Progress Fault → Result (Unit {0}) Fault
come_of (Ok a) = Ok tt
come_of (Err f) = Err f

-- what mapping it to no value gives
pub mapped : (P : Progress → Unit {0} → Type 0) (a : Result Progress Fault) (r : Result (Unit {0}) Fault) → MatchResult a (λ x. IsOkAnd r (P x)) (λ e. r ≡ Err e) → r ≡ come_of a
mapped P (Ok a) (Ok u) h = refl
mapped P (Ok a) (Err f) h = absurd h
mapped P (Err f) r h = h

told_answer : (c : ℕ) (a : Result Progress Fault) (q : Reply) → Says c a q → performed (come_of a) ≡ reply_answer q
unfolding reply_answer
told_answer c (Err f) q e = ap reply_answer (sym e)
told_answer c (Ok Went) q e = ap reply_answer (sym e.1)
told_answer c (Ok Amended) q e = ap reply_answer (sym e.1)
told_answer c (Ok Finished) q e = ap reply_answer (sym e)
told_answer c (Ok (Made n)) q e = ap reply_answer (sym e.2)

told_steps : (c : ℕ) (a : Result Progress Fault) (q : Reply) → Says c a q → from_bool (is_ok a) ≡ counted q
unfolding counted
told_steps c (Err f) q e = ap counted (sym e)
told_steps c (Ok Went) q e = ap counted (sym e.1)
told_steps c (Ok Amended) q e = ap counted (sym e.1)
told_steps c (Ok Finished) q e = ap counted (sym e)
told_steps c (Ok (Made n)) q e = ap counted (sym e.2)

pub one_step : (a : Result Progress Fault) → from_bool (is_ok a) ≤ 1
one_step (Ok a) = omega arith
one_step (Err f) = omega arith

-- the steps made and those left are within the bound again
pub within_after : (steps more before after : ℕ) → more ≤ 1 → steps + before ≤ 1_000_000 → after < before → steps + more + after ≤ 1_000_000
within_after steps more before after one bound falls = omega arith

-- The model's step, whatever came of it.

pub same_bench : (r : ℕ) {m m' : List ℕ} {l l' : List Member} {c c' n n' : ℕ} (z : Bool) → m ≡ m' → l ≡ l' → c ≡ c' → n ≡ n' → bench r m l c n z ≡ bench r m' l' c' n' z
same_bench r z p q e d = λ i. bench r (p i) (q i) (e i) (d i) z

after_is : (k : Kind) (r : ℕ) (m : List ℕ) (line : List Member) (c steps : ℕ) (z : Bool) (n : ℕ) (t : Task) (q : Reply) → reply m (request k t) ≡ q
    → after_reply k (bench r m line c steps z) (member n out t) q ≡ bench r (stored k m (request k t)) (replace n (in_place n c t q) line) (c + tasks_made q) (steps + counted q) z
unfolding after_reply bench marked with_status member in_place tasks_made counted
after_is k r m line c steps z n t (faulted f l) e = same_bench r z (sym (stored_fault k m (request k t) f l e)) refl (omega arith) (omega arith)
after_is k r m line c steps z n t (stepped x) e = same_bench r z refl refl refl (omega arith)

-- One step of task n, which is not finished, from s to s', where the line is l.

module _ (k : Kind) (n : ℕ) (t : Task) (s s' : Tasks) (l : Line) (tells : Tells l (task_at (tasks_of s))) (numbered : l.made ≡ length (tasks_of s)) (objects : object_count l ≡ length (store_of s)) (live : is_finished (state_of l n) ≡ false) where
  own_declared : task_at (tasks_of s) n ≡ t → declarations l n ≡ t.declared
  own_declared own = sym (equal_declarations (task_at (tasks_of s) n).declared (declarations l n) (tells n live)) ∙ ap (λ (u : Task). u.declared) own

  store_length : store_of s' ≡ stored k (store_of s) (request k t) → length (store_of s') ≡ length (store_of s)
  store_length e = ap length e ∙ length_stored k (store_of s) (request k t)

  -- a task that the step leaves holds no more than the one that made it
  narrowed : {a : Result Progress Fault} → StepOf k n t s a s' → (i : ℕ) (u : Task) → slice_get (tasks_of s') i ≡ Some u → Within t u → Narrowed l n (declared_at (tasks_of s') i)
  narrowed h i u e w =
      let known = at_known (tasks_of s) n t h.known in
      subst (λ (o : Option Task). Narrowed l n (declared_by o)) (sym e)
      (record {
        sized = declared_sized s' i u e ∙ store_length h.words ∙ sym objects;
        narrower = λ o b z. w o b (ap (λ (ds : List Declared). level ds o b) (sym (own_declared known)) ∙ z);
      })

  room : {a : Result Progress Fault} → StepOf k n t s a s' → (c : ℕ) (u v : Task) → reply (store_of s) (request k t) ≡ stepped (makes u v) → c ≡ length (tasks_of s) → RoomFor l n c (declared_at (tasks_of s') c)
  unfolding after segment
  room h c u v e d =
      let ts = tasks_of s in
      let is : tasks_of s' ≡ set ts n v ++ u ∷ [] = h.tasks ∙ ap (after n ts) e in
      let at : c ≡ length (set ts n v) = d ∙ sym (length-set ts n v) in
      let child : slice_get (tasks_of s') c ≡ Some u = ap (λ (xs : List Task). slice_get xs c) is ∙ ap (slice_get (set ts n v ++ u ∷ [])) at ∙ nth_last (set ts n v) u in
      record {
        next = d ∙ sym numbered;
        room = omega (arith, length_tasks s', s'.few, ap length is, length-append (set ts n v) (u ∷ []), length-set ts n v);
        live = live;
        narrowed = narrowed h c u child (fine_reply k (store_of s) t (makes u v) e).within.0;
      }

  pub fits_line : (a : Result Progress Fault) → StepOf k n t s a s' → FitsLine l (tasks_of s') n a
  unfolding after segment
  fits_line (Err f) h = tt
  fits_line (Ok Went) h = tt
  fits_line (Ok Amended) h =
      let u = h.answer.0 in
      let e = h.answer.1 in
      narrowed h n u (ap (λ (xs : List Task). slice_get xs n) (h.tasks ∙ ap (after n (tasks_of s)) e) ∙ get_set (tasks_of s) n t u h.known) (fine_reply k (store_of s) t (goes u) e).within.0
  fits_line (Ok Finished) h = tt
  fits_line (Ok (Made c)) h = room h c h.answer.0 h.answer.1 h.answer.2 h.answer.3

  -- ... and the line is l' after it
  module _ (a : Result Progress Fault) (h : StepOf k n t s a s') (l' : Line) (f : Followed (tasks_of s') n a l l') where
    follow : Follows n t (tasks_of s) (tasks_of s') a (reply (store_of s) (request k t))
    follow = follows n t (tasks_of s) h.known (tasks_of s') a (reply (store_of s) (request k t)) h.answer h.tasks

    still_told : Tells l' (task_at (tasks_of s'))
    still_told = f.tells (task_at (tasks_of s)) (task_at (tasks_of s')) follow.differs (declares n t (tasks_of s) h.known (tasks_of s') a h.kept) tells

    still_numbered : l'.made ≡ length (tasks_of s')
    still_numbered = f.made ∙ ap (λ (c : ℕ). c + added a) numbered ∙ sym follow.longer

    still_sized : object_count l' ≡ length (store_of s')
    still_sized = f.objects ∙ objects ∙ sym (store_length h.words)

    -- tasks and line still tell of the same
    pub still : Tells l' (task_at (tasks_of s')) × (l'.made ≡ length (tasks_of s')) × (object_count l' ≡ length (store_of s'))
    still = (still_told, still_numbered, still_sized)

    line_is : line_of l' (task_at (tasks_of s')) ≡ replace n (in_place n (length (tasks_of s)) t (reply (store_of s) (request k t))) (line_of l (task_at (tasks_of s)))
    line_is =
        f.line (task_at (tasks_of s)) (task_at (tasks_of s')) follow.differs
        ∙ ap (λ (new : List Member). replace n new (line_of l (task_at (tasks_of s)))) follow.stands

    -- its status was v
    module _ (r steps : ℕ) (z : Bool) (v : Status) (found_own : find n (line_of l (task_at (tasks_of s))) ≡ Some (member n v (task_at (tasks_of s) n))) where
      abbrev was : Bench
      was = bench r (store_of s) (line_of l (task_at (tasks_of s))) (length (tasks_of s)) steps z

      abbrev came : Bench
      came = bench r (store_of s') (line_of l' (task_at (tasks_of s'))) (length (tasks_of s')) (steps + from_bool (is_ok a)) z

      here : find n (line_of l (task_at (tasks_of s))) ≡ Some (member n v t)
      here = found_own ∙ ap (λ (u : Task). Some (member n v u)) (at_known (tasks_of s) n t h.known)

      -- with any line in which the same stands in the place of task n
      came_is : (line : List Member) → replace n (in_place n (length (tasks_of s)) t (reply (store_of s) (request k t))) line ≡ replace n (in_place n (length (tasks_of s)) t (reply (store_of s) (request k t))) (line_of l (task_at (tasks_of s)))
          → came ≡ after_reply k (bench r (store_of s) line (length (tasks_of s)) steps z) (member n out t) (reply (store_of s) (request k t))
      came_is line e =
          same_bench r z h.words (line_is ∙ sym e) (follow.longer ∙ ap (λ (c : ℕ). length (tasks_of s) + c) follow.makes) (ap (λ (c : ℕ). steps + c) (told_steps (length (tasks_of s)) a (reply (store_of s) (request k t)) h.answer))
          ∙ sym (after_is k r (store_of s) line (length (tasks_of s)) steps z n t (reply (store_of s) (request k t)) refl)

      -- its turn was out
      pub out_steps : v ≡ out → came ≡ advanced k n was
      unfolding step replied bench member
      out_steps e = came_is (line_of l (task_at (tasks_of s))) refl ∙ sym (advanced_found k n was (member n out t) (here ∙ ap (λ (u : Status). Some (member n u t)) e))

      pub out_answers : v ≡ out → performed (come_of a) ≡ step_answer k n was
      unfolding step_answer replied bench member
      out_answers e =
          told_answer (length (tasks_of s)) a (reply (store_of s) (request k t)) h.answer
          ∙ sym (ap (λ (o : Option Member). option_map_or (λ s. reply_answer (replied k was s)) o (Answer.refused Foreign)) (here ∙ ap (λ (u : Status). Some (member n u t)) e))

      pub out_falls : v ≡ out → left (line_of l' (task_at (tasks_of s'))) < left (line_of l (task_at (tasks_of s)))
      unfolding bench member
      out_falls e =
          let there = here ∙ ap (λ (u : Status). Some (member n u t)) e in
          omega (
            arith,
            step_falls k was (member n out t) (found n (line_of l (task_at (tasks_of s))) (member n out t) there) refl,
            ap (λ (b : Bench). left b.line) (out_steps e ∙ advanced_found k n was (member n out t) there),
          )

      -- it waited, and its turn is taken and performed at once
      taken : Bench
      taken = marked was (member n v t) out

      taken_there : find n taken.line ≡ Some (member n out t)
      unfolding taken bench with_status member
      taken_there = marked_find was (member n v t) out here

      pub turn_steps : came ≡ advanced k n (put n out was)
      unfolding taken step replied bench marked with_status member
      turn_steps =
          came_is taken.line (replace_replaced n (member n out t) refl _ (line_of l (task_at (tasks_of s))))
          ∙ sym (advanced_found k n taken (member n out t) taken_there)
          ∙ ap (advanced k n) (sym (put_found n out was (member n v t) here))
