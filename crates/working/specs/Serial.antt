-- Serial working: a pile of tasks, of which the top one makes each step.
use Rattle.std.specs.Prelude.{◌≡◌, ℕ, zero, suc, ◌+◌, List, [], ◌∷◌, ◌++◌, Some, None, Option}
use Rattle.kinds.specs.Kinds.{Kind}
use Rattle.cards.specs.Code.{Card}
use Rattle.cards.specs.Bounds.{card_steps}
use Rattle.working.specs.Tasks.{Task, main, starting_words}
use Rattle.working.specs.Requests.{FaultKind, Next, leaves, goes, makes, request, stored, Reply, faulted, stepped, reply}

-- all words, or a fault's kind, line and place
pub data Outcome : Type 0 where
  words : List ℕ → Outcome
  fault : FaultKind → ℕ → List ℕ → Outcome

-- an outcome, with the steps made and the tasks made
pub record Result : Type 0 where
  pub outcome : Outcome
  pub steps : ℕ
  pub made : ℕ

abbrev pub result : Outcome → ℕ → ℕ → Result
result o n c = record { outcome = o; steps = n; made = c }

-- the tasks that take the place of one that stepped
unfoldable pub segment : Next → List Task
segment leaves = []
segment (goes t) = t ∷ []
segment (makes c t) = c ∷ t ∷ []

unfoldable pub made_by : Next → ℕ
made_by leaves = 0
made_by (goes t) = 0
made_by (makes c t) = 1

unfoldable pub by_reply : {X : Type 0} → Reply → (FaultKind → ℕ → X) → (Next → X) → X
by_reply (faulted f l) a b = a f l
by_reply (stepped x) a b = b x

-- from words m and a pile, with n steps made and c tasks made: what it comes to, or None where the fuel does not suffice
unfoldable pub serial : Kind → ℕ → List ℕ → List Task → ℕ → ℕ → Option Result
serial k zero m [] n c = Some (result (words m) n c)
serial k zero m (t ∷ ts) n c = None
serial k (suc fuel) m [] n c = Some (result (words m) n c)
serial k (suc fuel) m (t ∷ ts) n c =
    by_reply (reply m (request k t))
    (λ f l. Some (result (fault f l t.place) n c))
    (λ x. serial k fuel (stored k m (request k t)) (segment x ++ ts) (suc n) (c + made_by x))

-- the same as a relation
pub data Serial (k : Kind) : List ℕ → List Task → ℕ → ℕ → Result → Type 0 where
  done : {m : List ℕ} {n c : ℕ} → Serial k m [] n c (result (words m) n c)
  stop : {m : List ℕ} {t : Task} {ts : List Task} {n c : ℕ} {f : FaultKind} {l : ℕ} → reply m (request k t) ≡ faulted f l → Serial k m (t ∷ ts) n c (result (fault f l t.place) n c)
  more : {m : List ℕ} {t : Task} {ts : List Task} {n c : ℕ} {x : Next} {r : Result} → reply m (request k t) ≡ stepped x → Serial k (stored k m (request k t)) (segment x ++ ts) (suc n) (c + made_by x) r → Serial k m (t ∷ ts) n c r

-- a card's serial working, with the card's step bound for fuel; main is the first task made
unfoldable pub serially : Kind → Card → Option Result
serially k c = serial k (card_steps c) (starting_words k c) (main k c ∷ []) 0 1

abbrev pub Serially : Kind → Card → Result → Type 0
Serially k c r = Serial k (starting_words k c) (main k c ∷ []) 0 1 r
