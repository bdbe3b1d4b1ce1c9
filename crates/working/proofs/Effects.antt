-- What each statement does.
use Rattle.std.proofs.Common.{◌≡◌, ℕ, suc, ◌≤◌, Bool, true, false, cond, List, [], ◌∷◌, ◌++◌, get_or, set, ℤ, sym, refl, ap, ◌∙◌, arith, Bor, vec_items, Ok, Err}
use Rattle.kinds.specs.Kinds.{Kind}
use Rattle.cards.specs.declared.lines.Access.{Access}
use Rattle.cards.specs.declared.lines.Access.TheVariants.{Rd, Wr, Cm}
use Rattle.cards.specs.declared.lines.Declaration.{Declaration}
use Rattle.cards.specs.declared.section.Section as Rust
use Rattle.cards.specs.declared.tree.Block as tree
use Rattle.cards.specs.Code.{Block, end, Statement, ◌before◌}
use Rattle.cards.specs.Bounds.{task_bound, statement_tasks, depth, statement_depth}
use Rattle.cards.specs.Trees.{block_of}
use Rattle.working.specs.Tasks.{Declared, Task, is_immediate, level}
use Rattle.working.specs.Requests.{FaultKind, reading, writing, joining, declaring, Request, Section, refused, accepted, amended, fault, quiet, read, write, join, goes, makes, changed, continued, with_word, with_pointer, word, pointer, child, maker, after_with, after_task, under, statement_request, stored, stepped, reply}
use Rattle.working.specs.declared.record.Record.{Record}
use Rattle.working.specs.declared.effect.Effect.TheVariants.{Passes, Amends, Enters, Repeats, Makes}
use Rattle.working.specs.Records.{task_with, declared_of, child_section, ChildRecord}
use Rattle.working.specs.Effects.{Did, Does}

-- r' is r with other words and pointers
abbrev pub Moved : Record → Record → List ℕ → List ℕ → Type 0
Moved r r' ws ps = (r'.words ≡ ws) × (r'.pointers ≡ ps) × (declared_of r' ≡ declared_of r)

abbrev task_as : List ℕ → ℕ → Block → List ℕ → List ℕ → List Declared → Task
task_as p c b ws ps ds = record { place = p; words = ws; pointers = ps; declared = ds; work = b; children = c }

task_is : (p : List ℕ) (c : ℕ) (b : Block) (r' : Record) (ws ps : List ℕ) (ds : List Declared) → r'.words ≡ ws → r'.pointers ≡ ps → declared_of r' ≡ ds → task_as p c b ws ps ds ≡ task_with r' p c b
task_is p c b r' ws ps ds e f h =
    ap (λ (x : List ℕ). task_as p c b x ps ds) (sym e)
    ∙ ap (λ (x : List ℕ). task_as p c b r'.words x ds) (sym f)
    ∙ ap (λ (x : List Declared). task_as p c b r'.words r'.pointers x) (sym h)

under_is : (t : Task) (a : Access) (o : ℕ) (q f : Request) (z : Bool) → z ≡ is_immediate (level t.declared o a) → under t a o q f ≡ cond z q f
unfolding under
under_is t a o q f z e = ap (λ (x : Bool). cond x q f) (sym e)

-- q are the requests of s
abbrev Asks : Kind → Record → ℕ → Statement → (List ℕ → ℕ → Block → Block → Request) → Type 0
Asks k r l s q = (p : List ℕ) (c : ℕ) (w b : Block) → statement_request k (task_with r p c w) l s b ≡ q p c w b

-- the arm of an `if` of words u and v, where t is whether u is less
arm_is : (k : Kind) (r r' : Record) (l : ℕ) (s : Statement) (i j u v : ℕ) (x y z : Block) (t : Bool) → Asks k r l s (λ p c w b. quiet (goes (continued (task_with r p c w) (cond (k.less (get_or r.words i 0) (get_or r.words j 0)) x y before b)))) → u ≡ get_or r.words i 0 → v ≡ get_or r.words j 0 → t ≡ k.less u v → z ≡ cond t x y → r' ≡ r → Asks k r l s (λ p c w b. quiet (goes (task_with r' p c (z before b))))
unfolding continued changed
arm_is k r r' l s i j u v x y z t e d f h n g = λ p c w b.
    e p c w b
    ∙ ap (λ (o : ℕ). quiet (goes (task_with r p c (cond (k.less o (get_or r.words j 0)) x y before b)))) (sym d)
    ∙ ap (λ (o : ℕ). quiet (goes (task_with r p c (cond (k.less u o) x y before b)))) (sym f)
    ∙ ap (λ (o : Bool). quiet (goes (task_with r p c (cond o x y before b)))) (sym h)
    ∙ ap (λ (o : Block). quiet (goes (task_with r p c (o before b)))) (sym n)
    ∙ ap (λ (o : Record). quiet (goes (task_with o p c (z before b)))) (sym g)

-- what the section of a `task` comes to
section_is : (k : Kind) (r : Record) (l : ℕ) (s : Statement) (xs : List Declaration) (x : Block) (v : Section) → s ≡ Statement.task xs x → child_section r xs ≡ v → Asks k r l s (λ p c w b. after_task (task_with r p c w) x b v)
unfolding statement_request
section_is k r l s xs x v e f = λ p c w b. ap (λ (y : Statement). statement_request k (task_with r p c w) l y b) e ∙ ap (after_task (task_with r p c w) x b) f

-- what becomes of a `task` whose child has record u
makes_child : (k : Kind) (r : Record) (m : List ℕ) (l : ℕ) (s : Statement) (xs : List Declaration) (x : Block) (u : Record) → s ≡ Statement.task xs x → ChildRecord xs r (Ok u) → (p : List ℕ) (c : ℕ) (w b : Block) → (reply m (statement_request k (task_with r p c w) l s b) ≡ stepped (makes (task_with u (p ++ suc c ∷ []) 0 x) (task_with r p (suc c) b))) × (m ≡ stored k m (statement_request k (task_with r p c w) l s b))
unfolding after_task child maker reply stored
makes_child k r m l s xs x u e h p c w b =
    let q : statement_request k (task_with r p c w) l s b ≡ quiet (makes (task_with u (p ++ suc c ∷ []) 0 x) (task_with r p (suc c) b)) =
    section_is k r l s xs x (accepted (declared_of u)) e h.0 p c w b
    ∙ ap (λ (t : Task). quiet (makes t (task_with r p (suc c) b))) (task_is (p ++ suc c ∷ []) 0 x u r.words r.pointers (declared_of u) h.1 h.2 refl) in
    (ap (reply m) q, ap (stored k m) (sym q))

module _ {k : Kind} {r r' : Record} {m m' : List ℕ} {l : ℕ} {s : Statement} where
  passes_by : (q : List ℕ → ℕ → Block → Block → Request) → Asks k r l s q → ((p : List ℕ) (c : ℕ) (w b : Block) → reply m (q p c w b) ≡ stepped (goes (task_with r' p c b))) → ((p : List ℕ) (c : ℕ) (w b : Block) → m' ≡ stored k m (q p c w b)) → Does k r m l s (Ok Passes) r' m'
  unfolding Did
  passes_by q e f h = record { did = λ p c w b. (ap (reply m) (e p c w b) ∙ f p c w b, h p c w b ∙ ap (stored k m) (sym (e p c w b))) }

  amends_by : Does k r m l s (Ok Passes) r' m' → Does k r m l s (Ok Amends) r' m'
  unfolding Did
  amends_by d = record { did = d.did }

  faults_by : (f : FaultKind) (n : ℕ) → Asks k r l s (λ p c w b. fault f n) → r' ≡ r → m' ≡ m → Does k r m l s (Err (record { kind = f; line = n })) r' m'
  unfolding Did
  faults_by f n e g h = record { did = λ p c w b. (e p c w b, g, h) }

  sets_word : (i v : ℕ) → Asks k r l s (λ p c w b. quiet (goes (with_word (task_with r p c w) i v b))) → Moved r r' (set r.words i v) r.pointers → m' ≡ m → Does k r m l s (Ok Passes) r' m'
  unfolding reply stored with_word changed
  sets_word i v e g h = passes_by _ e (λ p c w b. ap (λ (t : Task). stepped (goes t)) (task_is p c b r' _ _ _ g.0 g.1 g.2)) (λ p c w b. h)

  sets_pointer : (i v : ℕ) → Asks k r l s (λ p c w b. quiet (goes (with_pointer (task_with r p c w) i v b))) → Moved r r' r.words (set r.pointers i v) → m' ≡ m → Does k r m l s (Ok Passes) r' m'
  unfolding reply stored with_pointer changed
  sets_pointer i v e g h = passes_by _ e (λ p c w b. ap (λ (t : Task). stepped (goes t)) (task_is p c b r' _ _ _ g.0 g.1 g.2)) (λ p c w b. h)

  pub does_set : (i : ℕ) (z : ℤ) (v : ℕ) → s ≡ Statement.set i z → v ≡ k.literal z → Moved r r' (set r.words i v) r.pointers → m' ≡ m → Does k r m l s (Ok Passes) r' m'
  unfolding statement_request
  does_set i z v e f = sets_word i v (λ p c w b. ap (λ (x : Statement). statement_request k (task_with r p c w) l x b) e ∙ ap (λ (x : ℕ). quiet (goes (with_word (task_with r p c w) i x b))) (sym f))

  pub does_add : (i j : ℕ) (v : ℕ) → s ≡ Statement.add i j → v ≡ k.add (get_or r.words i 0) (get_or r.words j 0) → Moved r r' (set r.words i v) r.pointers → m' ≡ m → Does k r m l s (Ok Passes) r' m'
  unfolding statement_request word
  does_add i j v e f = sets_word i v (λ p c w b. ap (λ (x : Statement). statement_request k (task_with r p c w) l x b) e ∙ ap (λ (x : ℕ). quiet (goes (with_word (task_with r p c w) i x b))) (sym f))

  pub does_point : (i o : ℕ) → s ≡ Statement.point i o → Moved r r' r.words (set r.pointers i o) → m' ≡ m → Does k r m l s (Ok Passes) r' m'
  unfolding statement_request
  does_point i o e = sets_pointer i o (λ p c w b. ap (λ (x : Statement). statement_request k (task_with r p c w) l x b) e)

  pub does_alias : (i j : ℕ) → s ≡ Statement.alias i j → Moved r r' r.words (set r.pointers i (get_or r.pointers j 0)) → m' ≡ m → Does k r m l s (Ok Passes) r' m'
  unfolding statement_request pointer
  does_alias i j e = sets_pointer i (get_or r.pointers j 0) (λ p c w b. ap (λ (x : Statement). statement_request k (task_with r p c w) l x b) e)

  -- o is the object that the pointer names

  pub does_read : (i j o : ℕ) → s ≡ Statement.read i j → o ≡ get_or r.pointers j 0 → true ≡ is_immediate (level (declared_of r) o Rd) → Moved r r' (set r.words i (get_or m o 0)) r.pointers → m' ≡ m → Does k r m l s (Ok Passes) r' m'
  unfolding statement_request pointer reply stored with_word changed
  does_read i j o e f h g n = passes_by (λ p c w b. read o (λ v. goes (with_word (task_with r p c w) i v b)))
      (λ p c w b. ap (λ (x : Statement). statement_request k (task_with r p c w) l x b) e ∙ ap (λ (x : ℕ). under (task_with r p c w) Rd x (read x (λ v. goes (with_word (task_with r p c w) i v b))) (fault reading l)) (sym f) ∙ under_is (task_with r p c w) Rd o _ _ true h)
      (λ p c w b. ap (λ (t : Task). stepped (goes t)) (task_is p c b r' _ _ _ g.0 g.1 g.2))
      (λ p c w b. n)

  pub does_write : (j i o v : ℕ) → s ≡ Statement.write j i → o ≡ get_or r.pointers j 0 → true ≡ is_immediate (level (declared_of r) o Wr) → v ≡ get_or r.words i 0 → r' ≡ r → m' ≡ set m o v → Does k r m l s (Ok Passes) r' m'
  unfolding statement_request pointer word reply stored continued changed
  does_write j i o v e f h u g n = passes_by (λ p c w b. write o v (goes (continued (task_with r p c w) b)))
      (λ p c w b. ap (λ (x : Statement). statement_request k (task_with r p c w) l x b) e ∙ ap (λ (x : ℕ). under (task_with r p c w) Wr x (write x (get_or r.words i 0) (goes (continued (task_with r p c w) b))) (fault writing l)) (sym f) ∙ under_is (task_with r p c w) Wr o _ _ true h ∙ ap (λ (x : ℕ). write o x (goes (continued (task_with r p c w) b))) (sym u))
      (λ p c w b. ap (λ (x : Record). stepped (goes (task_with x p c b))) (sym g))
      (λ p c w b. n)

  pub does_join : (j i o v u : ℕ) → s ≡ Statement.join j i → o ≡ get_or r.pointers j 0 → true ≡ is_immediate (level (declared_of r) o Cm) → v ≡ get_or r.words i 0 → u ≡ k.join (get_or m o 0) v → r' ≡ r → m' ≡ set m o u → Does k r m l s (Ok Passes) r' m'
  unfolding statement_request pointer word reply stored continued changed
  does_join j i o v u e f h d x g n = passes_by (λ p c w b. join o v (goes (continued (task_with r p c w) b)))
      (λ p c w b. ap (λ (y : Statement). statement_request k (task_with r p c w) l y b) e ∙ ap (λ (y : ℕ). under (task_with r p c w) Cm y (join y (get_or r.words i 0) (goes (continued (task_with r p c w) b))) (fault joining l)) (sym f) ∙ under_is (task_with r p c w) Cm o _ _ true h ∙ ap (λ (y : ℕ). join o y (goes (continued (task_with r p c w) b))) (sym d))
      (λ p c w b. ap (λ (y : Record). stepped (goes (task_with y p c b))) (sym g))
      (λ p c w b. n ∙ ap (set m o) x)

  pub fails_read : (i j o : ℕ) → s ≡ Statement.read i j → o ≡ get_or r.pointers j 0 → false ≡ is_immediate (level (declared_of r) o Rd) → r' ≡ r → m' ≡ m → Does k r m l s (Err (record { kind = reading; line = l })) r' m'
  unfolding statement_request pointer
  fails_read i j o e f h = faults_by reading l (λ p c w b. ap (λ (x : Statement). statement_request k (task_with r p c w) l x b) e ∙ under_is (task_with r p c w) Rd _ _ _ false (h ∙ ap (λ (x : ℕ). is_immediate (level (declared_of r) x Rd)) f))

  pub fails_write : (j i o : ℕ) → s ≡ Statement.write j i → o ≡ get_or r.pointers j 0 → false ≡ is_immediate (level (declared_of r) o Wr) → r' ≡ r → m' ≡ m → Does k r m l s (Err (record { kind = writing; line = l })) r' m'
  unfolding statement_request pointer
  fails_write j i o e f h = faults_by writing l (λ p c w b. ap (λ (x : Statement). statement_request k (task_with r p c w) l x b) e ∙ under_is (task_with r p c w) Wr _ _ _ false (h ∙ ap (λ (x : ℕ). is_immediate (level (declared_of r) x Wr)) f))

  pub fails_join : (j i o : ℕ) → s ≡ Statement.join j i → o ≡ get_or r.pointers j 0 → false ≡ is_immediate (level (declared_of r) o Cm) → r' ≡ r → m' ≡ m → Does k r m l s (Err (record { kind = joining; line = l })) r' m'
  unfolding statement_request pointer
  fails_join j i o e f h = faults_by joining l (λ p c w b. ap (λ (x : Statement). statement_request k (task_with r p c w) l x b) e ∙ under_is (task_with r p c w) Cm _ _ _ false (h ∙ ap (λ (x : ℕ). is_immediate (level (declared_of r) x Cm)) f))

  enters_by : (z : Bor tree.Block) → Asks k r l s (λ p c w b. quiet (goes (task_with r' p c (block_of z.now before b)))) → m' ≡ m → Does k r m l s (Ok (Enters z)) r' m'
  unfolding Did reply stored
  enters_by z q a = record { did = λ p c w b. (ap (reply m) (q p c w b), a ∙ ap (stored k m) (sym (q p c w b))) }

  pub does_if : (i j u v : ℕ) (x : Block) (z : Bor tree.Block) → s ≡ Statement.if i j x → u ≡ get_or r.words i 0 → v ≡ get_or r.words j 0 → true ≡ k.less u v → block_of z.now ≡ x → r' ≡ r → m' ≡ m → Does k r m l s (Ok (Enters z)) r' m'
  unfolding statement_request word
  does_if i j u v x z e d f h n g = enters_by z (arm_is k r r' l s i j u v x end (block_of z.now) true (λ p c w b. ap (λ (o : Statement). statement_request k (task_with r p c w) l o b) e) d f h n g)

  pub skips_if : (i j u v : ℕ) (x : Block) → s ≡ Statement.if i j x → u ≡ get_or r.words i 0 → v ≡ get_or r.words j 0 → false ≡ k.less u v → r' ≡ r → m' ≡ m → Does k r m l s (Ok Passes) r' m'
  unfolding statement_request word ◌before◌ reply stored
  skips_if i j u v x e d f h g n =
      passes_by (λ p c w b. quiet (goes (task_with r' p c b)))
      (arm_is k r r' l s i j u v x end end false (λ p c w b. ap (λ (o : Statement). statement_request k (task_with r p c w) l o b) e) d f h refl g)
      (λ p c w b. refl)
      (λ p c w b. n)

  pub does_if_else : (i j u v : ℕ) (x y : Block) (z : Bor tree.Block) (t : Bool) → s ≡ Statement.if_else i j x y → u ≡ get_or r.words i 0 → v ≡ get_or r.words j 0 → t ≡ k.less u v → block_of z.now ≡ cond t x y → r' ≡ r → m' ≡ m → Does k r m l s (Ok (Enters z)) r' m'
  unfolding statement_request word
  does_if_else i j u v x y z t e d f h n g = enters_by z (arm_is k r r' l s i j u v x y (block_of z.now) t (λ p c w b. ap (λ (o : Statement). statement_request k (task_with r p c w) l o b) e) d f h n g)

  pub does_repeat : (n : ℕ) (z : Bor tree.Block) → s ≡ Statement.repeat n (block_of z.now) → r' ≡ r → m' ≡ m → Does k r m l s (Ok (Repeats n z)) r' m'
  unfolding Did
  does_repeat n z e g h = record { did = λ p c w b. (e, g, h) }

  pub does_with : (xs : List Declaration) → s ≡ Statement.with xs → amended r.pointers (declared_of r) xs ≡ accepted (declared_of r') → r'.words ≡ r.words → r'.pointers ≡ r.pointers → m' ≡ m → Does k r m l s (Ok Amends) r' m'
  unfolding statement_request after_with changed reply stored
  does_with xs e f g h n = amends_by (passes_by (λ p c w b. quiet (goes (changed (task_with r p c w) r.words r.pointers (declared_of r') b)))
      (λ p c w b. ap (λ (x : Statement). statement_request k (task_with r p c w) l x b) e ∙ ap (after_with (task_with r p c w) b) f)
      (λ p c w b. ap (λ (t : Task). stepped (goes t)) (task_is p c b r' _ _ _ g h refl))
      (λ p c w b. n))

  pub fails_with : (xs : List Declaration) (n : ℕ) → s ≡ Statement.with xs → amended r.pointers (declared_of r) xs ≡ refused n → r' ≡ r → m' ≡ m → Does k r m l s (Err (record { kind = declaring; line = n })) r' m'
  unfolding statement_request after_with
  fails_with xs n e f = faults_by declaring n (λ p c w b. ap (λ (x : Statement). statement_request k (task_with r p c w) l x b) e ∙ ap (after_with (task_with r p c w) b) f)

  pub fails_task : (xs : List Declaration) (x : Block) (n : ℕ) → s ≡ Statement.task xs x → child_section r xs ≡ refused n → r' ≡ r → m' ≡ m → Does k r m l s (Err (record { kind = declaring; line = n })) r' m'
  unfolding after_task
  fails_task xs x n e f = faults_by declaring n (section_is k r l s xs x (refused n) e f)

  pub does_task : (y : Bor Rust.Section) (x : Bor tree.Block) → s ≡ Statement.task (vec_items y.now.lines) (block_of x.now) → r' ≡ r → m' ≡ m → Does k r m l s (Ok (Makes y x)) r' m'
  unfolding Did
  does_task y x e g d = record {
    did = λ p c w b. (
      λ u h. let j = makes_child k r m l s (vec_items y.now.lines) (block_of x.now) u e h p c w b in (j.0 ∙ ap (λ (o : Record). stepped (makes (task_with u (p ++ suc c ∷ []) 0 (block_of x.now)) (task_with o p (suc c) b))) (sym g), d ∙ j.1),
      λ i h. ((fails_task (vec_items y.now.lines) (block_of x.now) i.line e h g d).did p c w b).0,
      g,
      d,
    );
  }

-- An arm, and a child's block, stand in their statement.

pub in_if : (i j : ℕ) (x : Block) (s : Statement) → s ≡ Statement.if i j x → (suc (depth x) ≤ statement_depth s) × (task_bound x ≤ statement_tasks s)
unfolding statement_depth statement_tasks
in_if i j x s e = (omega (arith, ap statement_depth e), omega (arith, ap statement_tasks e))

pub in_if_else : (i j : ℕ) (x y z : Block) (s : Statement) (t : Bool) → s ≡ Statement.if_else i j x y → z ≡ cond t x y → (suc (depth z) ≤ statement_depth s) × (task_bound z ≤ statement_tasks s)
unfolding statement_depth statement_tasks
in_if_else i j x y z s true e f = (omega (arith, ap statement_depth e, ap depth f), omega (arith, ap statement_tasks e, ap task_bound f))
in_if_else i j x y z s false e f = (omega (arith, ap statement_depth e, ap depth f), omega (arith, ap statement_tasks e, ap task_bound f))

pub in_task : (xs : List Declaration) (x : Block) (s : Statement) → s ≡ Statement.task xs x → (suc (depth x) ≤ statement_depth s) × (suc (task_bound x) ≤ statement_tasks s)
unfolding statement_depth statement_tasks
in_task xs x s e = (omega (arith, ap statement_depth e), omega (arith, ap statement_tasks e))
