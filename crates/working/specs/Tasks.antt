-- A task's record, and what it declares.
use Rattle.std.specs.Prelude.{ℕ, List, [], map, length, replicate, pos, slice_index_or, slice_set}
use Rattle.kinds.specs.Kinds.{Kind}
use Rattle.cards.specs.declared.lines.Access.{Access}
use Rattle.cards.specs.declared.lines.Access.TheVariants.{Rd, Wr, Cm}
use Rattle.cards.specs.declared.lines.Level.{Level}
use Rattle.cards.specs.declared.lines.Level.TheVariants.{Absent, Deferred}
use Rattle.cards.specs.Code.{Block, Card}
pub use Rattle.cards.specs.Levels.{held, is_immediate}
pub use Rattle.working.specs.declared.declared.Declared.{Declared}

abbrev pub nothing : Declared
nothing = record { reads = Absent; writes = Absent; commutes = Absent }

abbrev pub everything : Declared
everything = record { reads = Deferred; writes = Deferred; commutes = Deferred }

-- the declaration state of an access, and the declarations with another state for it
abbrev pub state : Declared → Access → Level
state d Rd = d.reads
state d Wr = d.writes
state d Cm = d.commutes

abbrev pub with_state : Declared → Access → Level → Declared
with_state d Rd s = record { reads = s; writes = d.writes; commutes = d.commutes }
with_state d Wr s = record { reads = d.reads; writes = s; commutes = d.commutes }
with_state d Cm s = record { reads = d.reads; writes = d.writes; commutes = s }

-- the state of an access on object o, nothing past the last; and declarations with another state there
abbrev pub level : List Declared → ℕ → Access → Level
level ds o a = state (slice_index_or ds o nothing) a

abbrev pub assign : List Declared → ℕ → Access → Level → List Declared
assign ds o a s = slice_set ds o (with_state (slice_index_or ds o nothing) a s)

-- the place of main is [], and that of the k-th child of P is P with k behind it
pub record Task : Type 0 where
  pub place : List ℕ
  pub words : List ℕ
  pub pointers : List ℕ
  pub declared : List Declared
  pub work : Block
  pub children : ℕ

-- main starts with literal 0 in each word, object 0 in each pointer, and everything deferred
unfoldable pub main : Kind → Card → Task
main k c = record {
  place = [];
  words = replicate 4 (k.literal (pos 0));
  pointers = replicate 4 0;
  declared = replicate (length c.words) everything;
  work = c.body;
  children = 0;
}

unfoldable pub starting_words : Kind → Card → List ℕ
starting_words k c = map k.literal c.words
