-- Objects and tasks hold words, and every step keeps that.
use Rattle.std.proofs.Common.{◌≡◌, ℕ, zero, suc, Bool, cond, List, [], ◌∷◌, ◌++◌, get_or, pos, arith}
use Rattle.std.proofs.lemmas.Int.{ints}
use Rattle.std.specs.List.{AllByRecursion}
use Rattle.std.proofs.lemmas.Bool.{cond_both}
use Rattle.std.proofs.ByRecursion.{All-set, All-map, All-weaker}
use Rattle.kinds.specs.Kinds.{IsWord, IsLiteral, Kind, Lawful}
use Rattle.cards.specs.declared.lines.Access.{Access}
use Rattle.cards.specs.declared.lines.Access.TheVariants.{Rd, Wr, Cm}
use Rattle.cards.specs.Code.{Block, end, next, Statement, ◌before◌, Card}
use Rattle.working.specs.declared.fault.FaultKind.{FaultKind}
use Rattle.working.specs.Tasks.{is_immediate, level, Task, main, starting_words}
use Rattle.working.specs.Requests.{Next, Request, fault, quiet, read, write, join, changed, continued, with_word, with_pointer, word, Section, refused, accepted, child, maker, after_with, after_task, under, statement_request, block_request, request, stored, stepped, reply}
use Rattle.working.specs.Serial.{segment}
use Rattle.cards.specs.Literals.{Literals}
use Rattle.runs.proofs.Literals.{BlockLiterals, StatementLiterals, literals_are, block_literals_are}
use Rattle.runs.proofs.Pairs.{all_update, all_at}

-- a task holds words, and literals in what it has to do
pub record Worded (t : Task) : Type 0 where
  pub words : AllByRecursion IsWord t.words
  pub work : BlockLiterals t.work

-- the objects' words, and the tasks in the line
pub record WholeWords (m : List ℕ) (line : List Task) : Type 0 where
  pub store : AllByRecursion IsWord m
  pub tasks : AllByRecursion Worded line

words_getD : (ws : List ℕ) (i : ℕ) → AllByRecursion IsWord ws → IsWord (get_or ws i 0)
words_getD [] i h = omega arith
words_getD (w ∷ ws) zero h = h.0
words_getD (w ∷ ws) (suc i) h = words_getD ws i h.1

literals_before : (x b : Block) → BlockLiterals x → BlockLiterals b → BlockLiterals (x before b)
unfolding ◌before◌
literals_before end b h g = g
literals_before (next l s x) b h g = (h.0, literals_before x b h.1 g)

-- what a request gives the objects, and the tasks that it leaves
abbrev pub Keeps : Request → Type 0
Keeps (fault f l) = Unit {0}
Keeps (quiet n) = AllByRecursion Worded (segment n)
Keeps (read o n) = (w : ℕ) → IsWord w → AllByRecursion Worded (segment (n w))
Keeps (write o w n) = IsWord w × AllByRecursion Worded (segment n)
Keeps (join o w n) = IsWord w × AllByRecursion Worded (segment n)

keeps_under : (t : Task) (a : Access) (o : ℕ) (r : Request) (f : FaultKind) (l : ℕ) → Keeps r → Keeps (under t a o r (fault f l))
unfolding under
keeps_under t a o r f l h = cond_both (is_immediate (level t.declared o a)) r (fault f l) Keeps (λ e. h) (λ e. tt)

keeps_with : (t : Task) (b : Block) (s : Section) → AllByRecursion IsWord t.words → BlockLiterals b → Keeps (after_with t b s)
unfolding after_with changed segment
keeps_with t b (refused l) h g = tt
keeps_with t b (accepted ds) h g = (record { words = h; work = g }, tt)

keeps_task : (t : Task) (x b : Block) (s : Section) → AllByRecursion IsWord t.words → BlockLiterals x → BlockLiterals b → Keeps (after_task t x b s)
unfolding after_task child maker segment
keeps_task t x b (refused l) h f g = tt
keeps_task t x b (accepted ds) h f g = (record { words = h; work = f }, (record { words = h; work = g }, tt))

keeps_arm : (t : Task) (z : Bool) (x y b : Block) → AllByRecursion IsWord t.words → BlockLiterals x → BlockLiterals y → BlockLiterals b → Worded (continued t (cond z x y before b))
unfolding continued changed
keeps_arm t z x y b h p q g = record { words = h; work = literals_before (cond z x y) b (cond_both z x y BlockLiterals (λ e. p) (λ e. q)) g }

reply_words : (m : List ℕ) (r : Request) (x : Next) → AllByRecursion IsWord m → Keeps r → reply m r ≡ stepped x → AllByRecursion Worded (segment x)
unfolding reply
reply_words m (fault f l) x h g e = cc
reply_words m (quiet n) x h g e = let q : n ≡ x = cc in rw (← q) g
reply_words m (read o n) x h g e = let q : n (get_or m o 0) ≡ x = cc in rw (← q) (g (get_or m o 0) (words_getD m o h))
reply_words m (write o w n) x h g e = let q : n ≡ x = cc in rw (← q) g.1
reply_words m (join o w n) x h g e = let q : n ≡ x = cc in rw (← q) g.1

module _ (k : Kind) (law : Lawful k) where
  keeps_statement : (t : Task) (l : ℕ) (s : Statement) (b : Block) → AllByRecursion IsWord t.words → StatementLiterals s → BlockLiterals b → Keeps (statement_request k t l s b)
  unfolding statement_request with_word with_pointer continued changed word segment
  keeps_statement t l (Statement.set i z) b h f g = (record { words = All-set IsWord t.words i _ (law.literal_word z f) h; work = g }, tt)
  keeps_statement t l (Statement.add i j) b h f g = (record { words = All-set IsWord t.words i _ (law.add_word _ _ (words_getD t.words i h) (words_getD t.words j h)) h; work = g }, tt)
  keeps_statement t l (Statement.point p o) b h f g = (record { words = h; work = g }, tt)
  keeps_statement t l (Statement.alias p q) b h f g = (record { words = h; work = g }, tt)
  keeps_statement t l (Statement.read i p) b h f g = keeps_under t Rd _ _ _ _ (λ w u. (record { words = All-set IsWord t.words i w u h; work = g }, tt))
  keeps_statement t l (Statement.write p i) b h f g = keeps_under t Wr _ _ _ _ (words_getD t.words i h, (record { words = h; work = g }, tt))
  keeps_statement t l (Statement.join p i) b h f g = keeps_under t Cm _ _ _ _ (words_getD t.words i h, (record { words = h; work = g }, tt))
  keeps_statement t l (Statement.if i j x) b h f g = (keeps_arm t (k.less (word t i) (word t j)) x end b h f tt g, tt)
  keeps_statement t l (Statement.if_else i j x y) b h f g = (keeps_arm t (k.less (word t i) (word t j)) x y b h f.0 f.1 g, tt)
  keeps_statement t l (Statement.repeat zero x) b h f g = (record { words = h; work = g }, tt)
  keeps_statement t l (Statement.repeat (suc c) x) b h f g = (record { words = h; work = literals_before x (next l (Statement.repeat c x) b) f (f, g) }, tt)
  keeps_statement t l (Statement.task ds x) b h f g = keeps_task t x b _ h f g
  keeps_statement t l (Statement.with ds) b h f g = keeps_with t b _ h g

  keeps_block : (t : Task) (b : Block) → AllByRecursion IsWord t.words → BlockLiterals b → Keeps (block_request k t b)
  unfolding block_request segment
  keeps_block t end h g = tt
  keeps_block t (next l s b) h g = keeps_statement t l s b h g.0 g.1

  pub keeps : (t : Task) → Worded t → Keeps (request k t)
  unfolding request
  keeps t h = keeps_block t t.work h.words h.work

  -- The words after a request, and the tasks after it.

  stored_words : (m : List ℕ) (r : Request) → AllByRecursion IsWord m → Keeps r → AllByRecursion IsWord (stored k m r)
  unfolding stored
  stored_words m (fault f l) h g = h
  stored_words m (quiet n) h g = h
  stored_words m (read o n) h g = h
  stored_words m (write o w n) h g = All-set IsWord m o w g.0 h
  stored_words m (join o w n) h g = All-set IsWord m o _ (law.join_word _ w (words_getD m o h) g.0) h

  -- a step of t keeps the words
  pub words_step : (m : List ℕ) (us : List Task) (t : Task) (vs : List Task) (x : Next) → WholeWords m (us ++ (t ∷ vs)) → reply m (request k t) ≡ stepped x → WholeWords (stored k m (request k t)) (us ++ (segment x ++ vs))
  words_step m us t vs x h e =
      let g = keeps t (all_at Worded us t vs h.tasks) in
      record {
        store = stored_words m (request k t) h.store g;
        tasks = all_update Worded us t vs (segment x) h.tasks (reply_words m (request k t) x h.store g e);
      }

  pub words_opened : (c : Card) → Literals c → WholeWords (starting_words k c) (main k c ∷ [])
  unfolding starting_words main
  words_opened c h =
      let start : IsWord (k.literal (pos 0)) = law.literal_word (pos 0) (omega (arith, ints), omega (arith, ints)) in record {
        store = All-map IsWord k.literal c.words (All-weaker IsLiteral (λ z. IsWord (k.literal z)) law.literal_word c.words (literals_are c.words h.words));
        tasks = (record { words = (start, (start, (start, (start, tt)))); work = block_literals_are c.body h.body }, tt);
      }
