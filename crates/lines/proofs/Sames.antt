-- The tests say that two lists are equal.
use Rattle.std.proofs.Common.{◌≡◌, true, ◌&&◌, eqb, List, [], ◌∷◌, sym, refl, ap, ◌∙◌, ap₂, arith}
use Rattle.std.proofs.lemmas.Bool.{and_parts, and_from, eqb-true, eq-eqb}
use Rattle.cards.specs.declared.lines.Level.{Level}
use Rattle.cards.specs.declared.lines.Level.TheVariants.{Absent, Deferred, Immediate}
use Rattle.working.specs.declared.declared.Declared.{Declared}
use Rattle.runs.specs.declared.entry.Entry.{Entry}
use Rattle.lines.specs.Same.{rank, same_declared, same_entries, same_declarations}
use Rattle.lines.specs.Changes.{entry}

rank_same : (a b : Level) → rank a ≡ rank b → a ≡ b
rank_same Absent Absent e = refl
rank_same Absent Deferred e = absurd (omega arith)
rank_same Absent Immediate e = absurd (omega arith)
rank_same Deferred Absent e = absurd (omega arith)
rank_same Deferred Deferred e = refl
rank_same Deferred Immediate e = absurd (omega arith)
rank_same Immediate Absent e = absurd (omega arith)
rank_same Immediate Deferred e = absurd (omega arith)
rank_same Immediate Immediate e = refl

made_of : Level → Level → Level → Declared
made_of r w c = record { reads = r; writes = w; commutes = c }

pub declared_from : (d e : Declared) → d.reads ≡ e.reads → d.writes ≡ e.writes → d.commutes ≡ e.commutes → d ≡ e
unfolding made_of
declared_from d e p q r = go d.reads e.reads d.writes e.writes d.commutes e.commutes p q r
  where
    go : (a a' b b' c c' : Level) → a ≡ a' → b ≡ b' → c ≡ c' → made_of a b c ≡ made_of a' b' c'
    go a a' b b' c c' p q r = cc

equal_declared : (d e : Declared) → same_declared d e ≡ true → d ≡ e
unfolding same_declared
equal_declared d e h =
    let a = and_parts (eqb (rank d.reads) (rank e.reads)) (eqb (rank d.writes) (rank e.writes) && eqb (rank d.commutes) (rank e.commutes)) h in
    let b = and_parts (eqb (rank d.writes) (rank e.writes)) (eqb (rank d.commutes) (rank e.commutes)) a.1 in
    declared_from d e
    (rank_same d.reads e.reads (eqb-true (rank d.reads) (rank e.reads) a.0))
    (rank_same d.writes e.writes (eqb-true (rank d.writes) (rank e.writes) b.0))
    (rank_same d.commutes e.commutes (eqb-true (rank d.commutes) (rank e.commutes) b.1))

same_itself : (d : Declared) → same_declared d d ≡ true
unfolding same_declared
same_itself d = and_from _ _ (eq-eqb (rank d.reads) (rank d.reads) refl) (and_from _ _ (eq-eqb (rank d.writes) (rank d.writes) refl) (eq-eqb (rank d.commutes) (rank d.commutes) refl))

pub equal_entries : (es fs : List Entry) → same_entries es fs ≡ true → es ≡ fs
unfolding same_entries
equal_entries [] [] h = refl
equal_entries [] (f ∷ fs) h = cc
equal_entries (e ∷ es) [] h = cc
equal_entries (e ∷ es) (f ∷ fs) h =
    let a = and_parts (eqb e.number f.number && same_declared e.declared f.declared) (same_entries es fs) h in
    let b = and_parts (eqb e.number f.number) (same_declared e.declared f.declared) a.0 in
    ap₂ (λ (x : Entry) (l : List Entry). x ∷ l) (ap₂ entry (eqb-true e.number f.number b.0) (equal_declared e.declared f.declared b.1)) (equal_entries es fs a.1)

entries_itself : (es : List Entry) → same_entries es es ≡ true
unfolding same_entries
entries_itself [] = refl
entries_itself (e ∷ es) = and_from _ _ (and_from _ _ (eq-eqb e.number e.number refl) (same_itself e.declared)) (entries_itself es)

pub same_entries_from : (es fs : List Entry) → es ≡ fs → same_entries es fs ≡ true
same_entries_from es fs e = ap (λ (l : List Entry). same_entries es l) (sym e) ∙ entries_itself es

pub equal_declarations : (ds es : List Declared) → same_declarations ds es ≡ true → ds ≡ es
unfolding same_declarations
equal_declarations [] [] h = refl
equal_declarations [] (e ∷ es) h = cc
equal_declarations (d ∷ ds) [] h = cc
equal_declarations (d ∷ ds) (e ∷ es) h =
    let a = and_parts (same_declared d e) (same_declarations ds es) h in
    ap₂ (λ (x : Declared) (l : List Declared). x ∷ l) (equal_declared d e a.0) (equal_declarations ds es a.1)

declarations_itself : (ds : List Declared) → same_declarations ds ds ≡ true
unfolding same_declarations
declarations_itself [] = refl
declarations_itself (d ∷ ds) = and_from _ _ (same_itself d) (declarations_itself ds)

pub same_declarations_from : (ds es : List Declared) → ds ≡ es → same_declarations ds es ≡ true
same_declarations_from ds es e = ap (λ (l : List Declared). same_declarations ds l) (sym e) ∙ declarations_itself ds
