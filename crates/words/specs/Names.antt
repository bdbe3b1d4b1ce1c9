-- Names: the first letter decides what a name names.
use Rattle.std.specs.Prelude.{ℕ, cond, List, drop, Some, None, Option, ◌==◌, slice_index}
use Rattle.words.specs.declared.names.Name.{Name}
use Rattle.words.specs.declared.names.Name.TheVariants as N
use Rattle.words.specs.Numbers.{number}

-- one of n0 to n3, p0 to p3 or o0 to o15
pub data Named : Type 0 where
  local pointer object : ℕ → Named

abbrev pub named : (ℕ → Named) → Option ℕ → Option Named
named f None = None
named f (Some n) = Some (f n)

abbrev pub name : List ℕ → Option Named
name s =
    cond (slice_index s 0 == 110) (named local (number 3 (drop 1 s)))
    (cond (slice_index s 0 == 112) (named pointer (number 3 (drop 1 s)))
    (cond (slice_index s 0 == 111) (named object (number 15 (drop 1 s))) None))

-- what a name in Rust names
abbrev pub name_of : Name → Named
name_of (N.Local i) = local i.n
name_of (N.Pointer i) = pointer i.n
name_of (N.Object i) = object i

abbrev pub names_of : Option Name → Option Named
names_of None = None
names_of (Some n) = Some (name_of n)

-- a name of the kind that is wanted
abbrev pub as_local : Option Named → Option ℕ
as_local None = None
as_local (Some (local i)) = Some i
as_local (Some (pointer i)) = None
as_local (Some (object i)) = None

abbrev pub as_pointer : Option Named → Option ℕ
as_pointer None = None
as_pointer (Some (local i)) = None
as_pointer (Some (pointer i)) = Some i
as_pointer (Some (object i)) = None

abbrev pub as_object : Option Named → Option ℕ
as_object None = None
as_object (Some (local i)) = None
as_object (Some (pointer i)) = None
as_object (Some (object i)) = Some i
