-- The steps of a bench are the performs that answered done.
use Rattle.std.proofs.Common.{◌≡◌, ℕ, zero, suc, ◌+◌, Bool, true, false, cond, List, [], ◌∷◌, Some, None, Option, arith}
use Rattle.std.specs.Option.{option_map_or}
use Rattle.kinds.specs.Kinds.{Kind}
use Rattle.cards.specs.Code.{Card}
use Rattle.working.specs.Requests.{Reply, faulted, stepped}
use Rattle.runs.specs.Lines.{waiting, out, Member, find}
use Rattle.runs.specs.Benches.{Bench, bench, opened, offer, settled}
use Rattle.runs.specs.Steps.{marked, after_reply, replied, step, put, advanced, shut}
use Rattle.runs.specs.Events.{effect}
use Rattle.runs.specs.Choices.{chosen}
use Rattle.runs.specs.Left.{left}
use Rattle.runs.specs.Refusals.{Refusal, Foreign}
use Rattle.runs.specs.Calls.{Call, refused}
use Rattle.runs.specs.Tests.{refusal}
use Rattle.runs.specs.Answers.{reply_answer, step_answer, turned, worked_off, granted, answered, answer, after_calls}
use Rattle.runs.specs.Done.{is_done, turned_done, worked_off_done, granted_done, unless_refused, calls_done}
use Rattle.runs.proofs.Changes.{put_steps}

advanced_steps : (k : Kind) (n : ℕ) (b : Bench) → (advanced k n b).steps ≡ b.steps + is_done (step_answer k n b)
unfolding advanced step_answer step after_reply bench marked reply_answer is_done
advanced_steps k n b = go (find n b.line)
  where
    one : (s : Member) (p : Reply) → (after_reply k b s p).steps ≡ b.steps + is_done (reply_answer p)
    one s (faulted f l) = omega arith
    one s (stepped x) = omega arith

    go : (o : Option Member) → (option_map_or (step k b) o b).steps ≡ b.steps + is_done (option_map_or (λ s. reply_answer (replied k b s)) o (refused Foreign))
    go None = omega arith
    go (Some s) = one s (replied k b s)

turned_steps : (k : Kind) (f : List ℕ → ℕ) (b : Bench) → (turned k f b).steps ≡ b.steps + turned_done k f b
unfolding turned turned_done effect
turned_steps k f b = let n = chosen f (offer b) in let p = advanced_steps k n (put n out b) in let q = put_steps n out b in omega arith

worked_off_steps : (k : Kind) (fuel : ℕ) (fs : ℕ → List ℕ → ℕ) (b : Bench) → (worked_off k fuel fs b).steps ≡ b.steps + worked_off_done k fuel fs b
unfolding worked_off worked_off_done
worked_off_steps k zero fs b = omega arith
worked_off_steps k (suc fuel) fs b = go (settled b) (worked_off_steps k fuel (λ i. fs (suc i)) (turned k (fs 0) b))
  where
    go : (x : Bool) → (worked_off k fuel (λ i. fs (suc i)) (turned k (fs 0) b)).steps ≡ (turned k (fs 0) b).steps + worked_off_done k fuel (λ i. fs (suc i)) (turned k (fs 0) b) → (cond x b (worked_off k fuel (λ i. fs (suc i)) (turned k (fs 0) b))).steps ≡ b.steps + cond x 0 (turned_done k (fs 0) b + worked_off_done k fuel (λ i. fs (suc i)) (turned k (fs 0) b))
    go true h = omega arith
    go false h = omega (arith, turned_steps k (fs 0) b)

granted_steps : (k : Kind) (x : Call) (b : Bench) → (granted k x b).1.steps ≡ b.steps + granted_done k x b
unfolding granted granted_done effect shut bench
granted_steps k (Call.take g f) b = omega (arith, put_steps (chosen f (offer b)) out b)
granted_steps k (Call.perform t) b = advanced_steps k t.task b
granted_steps k (Call.hand_back t) b = omega (arith, put_steps t.task waiting b)
granted_steps k (Call.look o i) b = omega arith
granted_steps k (Call.work_off g fs) b = worked_off_steps k (left b.line) fs b
granted_steps k (Call.close g) b = omega arith
granted_steps k (Call.sheet z buffer) b = omega arith

answer_steps : (k : Kind) (x : Call) (b : Bench) → (answer k x b).1.steps ≡ b.steps + unless_refused (refusal k x b) (granted_done k x b)
unfolding answer answered unless_refused
answer_steps k x b = go (refusal k x b)
  where
    go : (o : Option Refusal) → (answered o b (granted k x b)).1.steps ≡ b.steps + unless_refused o (granted_done k x b)
    go None = granted_steps k x b
    go (Some r) = omega arith

calls_steps : (k : Kind) (xs : List Call) (b : Bench) → (after_calls k xs b).steps ≡ b.steps + calls_done k xs b
unfolding after_calls calls_done
calls_steps k [] b = omega arith
calls_steps k (x ∷ xs) b = let h = calls_steps k xs (answer k x b).1 in omega (arith, answer_steps k x b)

pub opened_counted : (k : Kind) (c : Card) (r : ℕ) (xs : List Call) → (after_calls k xs (opened k c r)).steps ≡ calls_done k xs (opened k c r)
unfolding opened bench
opened_counted k c r xs = omega (arith, calls_steps k xs (opened k c r))
