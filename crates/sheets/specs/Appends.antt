-- What a function that appends a text to a vector promises.
use Rattle.std.specs.Prelude.{◌≡◌, ℕ, ◌+◌, ◌≤◌, true, List, ◌++◌, length, is_ok, Ok, Err, vec_items, vec_len, vec_capacity, Result, Vec}
use Rattle.std.specs.declared.alloc.AllocError.{AllocError}
use Rattle.std.specs.declared.alloc.Global.{Global}

-- the whole text behind what stood there, or on failure some part of a text
abbrev pub Holds : List ℕ → List ℕ → List ℕ → Result (Unit {0}) AllocError → Type 0
Holds before after text (Ok _) = after ≡ before ++ text
Holds before after text (Err _) = (part : List ℕ) × (after ≡ before ++ part)

pub record Appends (before after : Vec ℕ Global) (text : List ℕ) (r : Result (Unit {0}) AllocError) : Type 0 where
  pub items : Holds (vec_items before) (vec_items after) text r
  pub capacity : vec_capacity before ≤ vec_capacity after
  -- a text that has room is never refused
  pub succeeds : vec_len before + length text ≤ vec_capacity before → is_ok r ≡ true
