-- A change of every queue, one after the other.
use Rattle.std.proofs.Common.{◌≡◌, ℕ, ◌+◌, ◌<◌, ◌≤◌, Bool, cond, ltb, ◌⊎◌, List, [], ◌++◌, length, get_or, take, drop, set, Vec, Global, vec_items, vec_len, sym, refl, ap, ◌∙◌, inl, inr, arith}
use Rattle.std.proofs.lemmas.List.{get_or-set_same, get_or-set_other, get_or_past, take-append-le, take_all}
use Rattle.std.proofs.lemmas.Bool.{cases_eq, cases_lt, lt-ltb, le-ltb, cond-true, cond-false}
use Rattle.lines.specs.Rows.{without}
use Rattle.runs.specs.declared.entry.Entry.{Entry}
use Rattle.working.specs.declared.declared.Declared.{Declared}
use Rattle.working.specs.Tasks.{nothing}
use Rattle.runs.specs.Queues.{declares}
use Rattle.lines.specs.declared.queue.Queue.{Queue}
use Rattle.lines.specs.Stored.{queues_of}
use Rattle.lines.specs.Changes.{entered, redeclared, left}
use Rattle.lines.proofs.Stores.{length_queues, getD_queues, set_queues}

module _ (f : ℕ → List Entry → List Entry) (old : List (List Entry)) where
  -- the first o queues are changed
  abbrev pub ChangedTo : ℕ → List (List Entry) → Type 0
  ChangedTo o new = (k : ℕ) → get_or new k [] ≡ cond (ltb k o) (f k (get_or old k [])) (get_or old k [])

  pub changed_none : ChangedTo 0 old
  changed_none k = sym (cond-false (ltb k 0) (f k (get_or old k [])) (get_or old k []) (le-ltb k 0 (omega arith)))

  changed_more : (o : ℕ) (new : List (List Entry)) (q : List Entry) → o < length new → q ≡ f o (get_or new o []) → ChangedTo o new → ChangedTo (o + 1) (set new o q)
  changed_more o new q lt is h k = go (cases_eq k o)
    where
      go : (k ≡ o) ⊎ (k ≡ o → ⊥) → get_or (set new o q) k [] ≡ cond (ltb k (o + 1)) (f k (get_or old k [])) (get_or old k [])
      go (inl e) =
          ap (λ (j : ℕ). get_or (set new o q) j []) e ∙ get_or-set_same new o q [] lt ∙ is
          ∙ ap (f o) (h o ∙ cond-false (ltb o o) (f o (get_or old o [])) (get_or old o []) (le-ltb o o (omega arith)))
          ∙ ap (λ (j : ℕ). f j (get_or old j [])) (sym e)
          ∙ sym (cond-true (ltb k (o + 1)) (f k (get_or old k [])) (get_or old k []) (lt-ltb k (o + 1) (omega arith)))
      go (inr n) = get_or-set_other new o k q [] n ∙ h k ∙ ap (λ (b : Bool). cond b (f k (get_or old k [])) (get_or old k [])) (below (cases_lt k o))
        where
          below : (k < o) ⊎ (o ≤ k) → ltb k o ≡ ltb k (o + 1)
          below (inl l) = lt-ltb k o l ∙ sym (lt-ltb k (o + 1) (omega arith))
          below (inr g) = le-ltb k o g ∙ sym (le-ltb k (o + 1) (omega arith))

  pub changed_all : (o : ℕ) (new : List (List Entry)) → length old ≤ o → ((k : ℕ) → o ≤ k → f k [] ≡ []) → ChangedTo o new → (k : ℕ) → get_or new k [] ≡ f k (get_or old k [])
  changed_all o new ge past h k = go (cases_lt k o)
    where
      go : (k < o) ⊎ (o ≤ k) → get_or new k [] ≡ f k (get_or old k [])
      go (inl l) = h k ∙ cond-true (ltb k o) (f k (get_or old k [])) (get_or old k []) (lt-ltb k o l)
      go (inr g) =
          let none : get_or old k [] ≡ [] = get_or_past old k [] (omega arith) in
          h k ∙ cond-false (ltb k o) (f k (get_or old k [])) (get_or old k []) (le-ltb k o g) ∙ none ∙ sym (past k g) ∙ ap (f k) (sym none)

  -- a Vec of which each queue was changed in turn
  pub changed_back : (v : Vec Queue Global) (qs : List Queue) (o : ℕ) → old ≡ queues_of (vec_items v) → length qs ≡ length (vec_items v) → length (vec_items v) ≤ o → ((k : ℕ) → length (vec_items v) ≤ k → f k [] ≡ []) → ChangedTo o (queues_of qs) → (k : ℕ) → get_or (queues_of (take v.len (qs ++ drop (length qs) (vec_items v)))) k [] ≡ f k (get_or (queues_of (vec_items v)) k [])
  changed_back v qs o is long ge past h k =
      ap (λ (r : List Queue). get_or (queues_of r) k []) (take-append-le v.len qs (drop (length qs) (vec_items v)) (omega (arith, v.ok.0)) ∙ take_all v.len qs (omega (arith, v.ok.0)))
      ∙ changed_all o (queues_of qs) (omega (arith, ap length is, length_queues (vec_items v))) (λ j le. past j (omega arith)) h k
      ∙ ap (λ (r : List (List Entry)). f k (get_or r k [])) is

  not_yet : (o : ℕ) (new : List (List Entry)) → ChangedTo o new → get_or new o [] ≡ get_or old o []
  not_yet o new h = h o ∙ cond-false (ltb o o) (f o (get_or old o [])) (get_or old o []) (le-ltb o o (omega arith))

  pub queue_more : (o : ℕ) (qs : List Queue) (q d : Queue) → o < length qs → d ≡ get_or qs o d → vec_items q.entries ≡ f o (vec_items d.entries) → ChangedTo o (queues_of qs) → ChangedTo (o + 1) (queues_of (set qs o q))
  queue_more o qs q d lt read is h k =
      ap (λ (r : List (List Entry)). get_or r k []) (set_queues qs o q)
      ∙ changed_more o (queues_of qs) (vec_items q.entries) (rw length_queues lt) (is ∙ ap (f o) (sym (getD_queues qs o d lt read))) h k

  pub queue_short : (o : ℕ) (qs : List Queue) (d : Queue) (n : ℕ) → o < length qs → d ≡ get_or qs o d → ChangedTo o (queues_of qs) → length (get_or old o []) < n → vec_len d.entries < n
  queue_short o qs d n lt read h short =
      let e : length (vec_items d.entries) ≡ length (get_or old o []) = ap length (sym (getD_queues qs o d lt read) ∙ not_yet o (queues_of qs) h) in
      omega (arith, d.entries.ok.0)

-- past the last object nothing is declared, and there is no queue

pub entered_past : (m n o : ℕ) (ds : List Declared) → length ds ≤ o → entered m n (get_or ds o nothing) [] ≡ []
unfolding declares
entered_past m n o ds le = ap (λ (d : Declared). entered m n d []) (get_or_past ds o nothing le)

pub redeclared_past : (n o : ℕ) (ds : List Declared) → length ds ≤ o → redeclared n (get_or ds o nothing) [] ≡ []
unfolding declares without
redeclared_past n o ds le = ap (λ (d : Declared). redeclared n d []) (get_or_past ds o nothing le)

pub left_past : (n : ℕ) → left n [] ≡ []
unfolding without
left_past n = refl
