-- The turns on the channels, when one channel changes.
use Rattle.std.proofs.Common.{◌≡◌, ℕ, ◌<◌, true, ◌⊎◌, List, length, get_or, set, Some, None, Option, sym, ap, ◌∙◌, subst, inl, inr}
use Rattle.std.proofs.lemmas.List.{get_or-set_same, get_or-set_other}
use Rattle.std.proofs.lemmas.Bool.{cases_eq}
use Rattle.runs.specs.Benches.{Bench}
use Rattle.runs.specs.Tests.{fits_turn}
use Rattle.bench.specs.Views.{turn_of}
use Rattle.channels.specs.declared.desk.Out.{Out}
use Rattle.channels.specs.Outs.{OutAt, Known, Apart}

none_some : {X T : Type 0} (x : T) → None ≡ Some x → X
none_some x e = cc

pub some_same : {T : Type 0} (x y : T) → Some x ≡ Some y → x ≡ y
some_same x y e = cc

-- the turn on a channel is one that bench b knows
abbrev Knows : Bench → Out → Type 0
Knows b x = fits_turn (turn_of x.turn) b ≡ true

-- Channel i changes.
module _ (outs : List (Option Out)) (i : ℕ) (lt : i < length outs) (v : Option Out) where
  -- what is out on channel j afterwards: what channel i got, or what was out there
  data Was (j : ℕ) (y : Out) : Type 0 where
    new : j ≡ i → v ≡ Some y → Was j y
    old : (j ≡ i → ⊥) → OutAt outs j y → Was j y

  was : (j : ℕ) (y : Out) → OutAt (set outs i v) j y → Was j y
  was j y h = go (cases_eq j i)
    where
      go : (j ≡ i) ⊎ (j ≡ i → ⊥) → Was j y
      go (inl e) = new e (sym (get_or-set_same outs i v None lt) ∙ ap (λ (n : ℕ). get_or (set outs i v) n None) (sym e) ∙ h)
      go (inr f) = old f (sym (get_or-set_other outs i j v None f) ∙ h)

  -- It is freed: what is done with its turn keeps the others.
  module _ (gone : v ≡ None) where
    freed : (j : ℕ) (y : Out) → Was j y → (j ≡ i → ⊥) × OutAt outs j y
    freed j y (new e q) = none_some y (sym gone ∙ q)
    freed j y (old f h) = (f, h)

    pub freed_apart : Apart outs → Apart (set outs i v)
    freed_apart apart j l x y h g e = apart j l x y (freed j x (was j x h)).1 (freed l y (was l y g)).1 e

    pub freed_known : Apart outs → (x : Out) → OutAt outs i x → (b b' : Bench) → Known outs b → ((y : Out) → Knows b y → (y.turn.task ≡ x.turn.task → ⊥) → Knows b' y) → Known (set outs i v) b'
    freed_known apart x here b b' known keeps j y h =
        let o = freed j y (was j y h) in
        keeps y (known j y o.1) (λ e. o.0 (apart j i y x o.1 here e))

  -- It gets x, the turn of another task than the others have.
  module _ (x : Out) (filled : v ≡ Some x) (b : Bench) (known : Known outs b) where
    pub filled_known : (b' : Bench) → Knows b' x → ((y : Out) → Knows b y → Knows b' y) → Known (set outs i v) b'
    filled_known b' fits keeps j y h = go (was j y h)
      where
        go : Was j y → Knows b' y
        go (new e q) = subst (Knows b') (some_same x y (sym filled ∙ q)) fits
        go (old f g) = keeps y (known j y g)

    pub filled_apart : Apart outs → ((y : Out) → Knows b y → y.turn.task ≡ x.turn.task → ⊥) → Apart (set outs i v)
    filled_apart apart other j l y z h g e = go (was j y h) (was l z g)
      where
        go : Was j y → Was l z → j ≡ l
        go (new p q) (new r s) = p ∙ sym r
        go (new p q) (old f w) = absurd (other z (known l z w) (sym e ∙ ap (λ (o : Out). o.turn.task) (some_same y x (sym q ∙ filled))))
        go (old f w) (new r s) = absurd (other y (known j y w) (e ∙ ap (λ (o : Out). o.turn.task) (some_same z x (sym s ∙ filled))))
        go (old f w) (old d u) = apart j l y z w u e
