-- The stored queues stay those of the line.
use Rattle.std.proofs.Common.{◌≡◌, ℕ, ◌≤◌, true, false, cond, List, [], ◌∷◌, length, get_or, sym, refl, ap, ◌∙◌, ap₂, arith}
use Rattle.working.specs.declared.declared.Declared.{Declared}
use Rattle.working.specs.Tasks.{nothing, Task}
use Rattle.runs.specs.declared.entry.Entry.{Entry}
use Rattle.runs.specs.Lines.{member}
use Rattle.runs.specs.Queues.{on, declares, queue}
use Rattle.lines.specs.declared.state.State.{State}
use Rattle.lines.specs.Rows.{itself, entry_number, put_before, without, absent, apart}
use Rattle.lines.specs.Stored.{declared_in, declared_by, member_at, members_at, declaring, stored_line}
use Rattle.lines.specs.Same.{same_entries}
use Rattle.lines.specs.Changes.{entry, entered, redeclared, left}
use Rattle.lines.proofs.Sames.{equal_entries, same_entries_from}
use Rattle.lines.proofs.Numbers.{there_first, there_later, absent_out_same}
use Rattle.lines.proofs.Entries.{entries, entries_short, entries_left, entries_other, entries_enter, entries_redeclared, absent_entries, apart_entries}
use Rattle.lines.proofs.Declareds.{declared_at, entered_own, entered_other, left_other, redeclared_own, redeclared_other}

-- the queue is that of the tasks ns, by what it says that they declare
abbrev pub Queued : List Entry → List ℕ → Type 0
Queued es ns = es ≡ entries (declared_in es) ns

pub queued_short : (es : List Entry) (ns : List ℕ) → Queued es ns → length es ≤ length ns
queued_short es ns h = let e : length es ≡ length (entries (declared_in es) ns) = ap length h in omega (arith, entries_short (declared_in es) ns)

module _ (es : List Entry) (ns : List ℕ) (h : Queued es ns) where
  queued_absent : (n : ℕ) → absent itself n ns ≡ true → absent entry_number n es ≡ true
  queued_absent n a = ap (absent entry_number n) h ∙ absent_entries (declared_in es) n ns a

  queued_apart : apart itself ns ≡ true → apart entry_number es ≡ true
  queued_apart a = ap (apart entry_number) h ∙ apart_entries (declared_in es) ns a

  pub queued_entered : (m n : ℕ) (d : Declared) → absent itself n ns ≡ true → (absent itself m ns ≡ false → declares d ≡ true → declares (declared_in es m) ≡ true) → Queued (entered m n d es) (put_before itself m n ns)
  queued_entered m n d a rule =
      let g : ℕ → Declared = declared_in (entered m n d es) in
      let own : g n ≡ d = entered_own m n d es (queued_absent n a) in
      sym (entries_enter (declared_in es) g n (λ k f. entered_other m n d es k f) m ns (λ b y. rule b (ap declares (sym own) ∙ y)) a ∙ ap₂ (λ (x : Declared) (l : List Entry). entered m n x l) own (sym h))

  pub queued_redeclared : (n : ℕ) (d : Declared) → apart itself ns ≡ true → (declares d ≡ true → declares (declared_in es n) ≡ true) → Queued (redeclared n d es) ns
  queued_redeclared n d a rule =
      let g : ℕ → Declared = declared_in (redeclared n d es) in
      let own : g n ≡ d = redeclared_own n d es (queued_apart a) rule in
      sym (entries_redeclared (declared_in es) g n (λ k f. redeclared_other n d es k f) (λ y. rule (ap declares (sym own) ∙ y)) ns a ∙ ap₂ (λ (x : Declared) (l : List Entry). redeclared n x l) own (sym h))

  pub queued_left : (n : ℕ) → apart itself ns ≡ true → Queued (left n es) (without itself n ns)
  queued_left n a =
      sym (entries_other (declared_in es) (declared_in (left n es)) n (λ k f. left_other n es k f) (without itself n ns) (absent_out_same n ns a)
      ∙ entries_left (declared_in es) n ns a ∙ ap (left n) (sym h))

  pub declares_own : (m n : ℕ) (d : Declared) → absent itself n ns ≡ true → declared_in (entered m n d es) n ≡ d
  declares_own m n d a = entered_own m n d es (queued_absent n a)

  pub declares_new : (n : ℕ) (d : Declared) → apart itself ns ≡ true → (declares d ≡ true → declares (declared_in es n) ≡ true) → declared_in (redeclared n d es) n ≡ d
  declares_new n d a rule = redeclared_own n d es (queued_apart a) rule

-- In the model's terms.

abbrev pub AllQueued : List (List Entry) → List ℕ → Type 0
AllQueued qs ns = (o : ℕ) → Queued (get_or qs o []) ns

abbrev pub Told : List (List Entry) → (ℕ → Task) → List ℕ → Type 0
Told qs t ns = (n : ℕ) → absent itself n ns ≡ false → (t n).declared ≡ declared_by qs n

pub on_told : (qs : List (List Entry)) (ss : List State) (t : ℕ → Task) (n o : ℕ) → (t n).declared ≡ declared_by qs n → on (member_at ss t n) o ≡ declared_in (get_or qs o []) n
unfolding on member_at member
on_told qs ss t n o e = ap (λ (ds : List Declared). get_or ds o nothing) e ∙ declared_at qs n o

queue_entries : (qs : List (List Entry)) (ss : List State) (t : ℕ → Task) (o : ℕ) (ns : List ℕ) → Told qs t ns → queue o (members_at ss t ns) ≡ entries (declared_in (get_or qs o [])) ns
unfolding queue members_at member_at member entries
queue_entries qs ss t o [] h = refl
queue_entries qs ss t o (n ∷ ns) h =
    ap₂ (λ (d : Declared) (l : List Entry). cond (declares d) (entry n d ∷ l) l) (on_told qs ss t n o (h n (there_first n ns))) (queue_entries qs ss t o ns (λ m a. h m (there_later m n ns a)))

pub queue_stored : (qs : List (List Entry)) (ss : List State) (t : ℕ → Task) (ns : List ℕ) → AllQueued qs ns → Told qs t ns → (o : ℕ) → queue o (members_at ss t ns) ≡ get_or qs o []
queue_stored qs ss t ns h told o = queue_entries qs ss t o ns told ∙ sym (h o)

abbrev pub Stored : List (List Entry) → List State → List ℕ → Type 0
Stored qs ss ns = (o : ℕ) → same_entries (get_or qs o []) (queue o (stored_line qs ss ns)) ≡ true

self_told : (qs : List (List Entry)) (ns : List ℕ) → Told qs (λ n. declaring (declared_by qs n)) ns
unfolding declaring
self_told qs ns n a = refl

pub stored_queued : (qs : List (List Entry)) (ss : List State) (ns : List ℕ) → Stored qs ss ns → AllQueued qs ns
unfolding stored_line
stored_queued qs ss ns h o = equal_entries (get_or qs o []) _ (h o) ∙ queue_entries qs ss (λ n. declaring (declared_by qs n)) o ns (self_told qs ns)

pub queued_stored : (qs : List (List Entry)) (ss : List State) (ns : List ℕ) → AllQueued qs ns → Stored qs ss ns
unfolding stored_line
queued_stored qs ss ns h o = same_entries_from (get_or qs o []) _ (h o ∙ sym (queue_entries qs ss (λ n. declaring (declared_by qs n)) o ns (self_told qs ns)))
