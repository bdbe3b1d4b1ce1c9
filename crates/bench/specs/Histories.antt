-- What lists of calls lead to, and what is promised of it.
use Rattle.std.specs.Prelude.{◌≡◌, ℕ, List}
use Rattle.kinds.specs.Kinds.{Kind}
use Rattle.cards.specs.Code.{Card}
use Rattle.cards.specs.Literals.{Literals}
use Rattle.runs.specs.Benches.{Bench, opened}
use Rattle.runs.specs.Calls.{Call, LawfulCalls}
use Rattle.runs.specs.Answers.{after_calls}
use Rattle.runs.specs.Promise.{SerialSound, Refuses, Promised}

-- a list of calls, granted or refused, leads from card c opened under run number r to b; its choices keep the law
pub record History (k : Kind) (c : Card) (r : ℕ) (b : Bench) : Type 0 where
  pub literals : Literals c
  pub calls : List Call
  pub lawful : LawfulCalls calls
  pub leads : after_calls k calls (opened k c r) ≡ b

-- whatever led to b, a call leads on to b'
abbrev pub LeadsOn : Kind → Bench → Bench → Type 0
LeadsOn k b b' = (c : Card) (r : ℕ) → History k c r b → History k c r b'

-- the whole promise for a card: of serial working, of the refusals of every bench, and of every list of calls
pub record Promises (k : Kind) (c : Card) (r : ℕ) : Type 0 where
  pub serial : SerialSound k c
  pub refuses : (b : Bench) → Refuses k b
  pub calls : (calls : List Call) → LawfulCalls calls → Promised k c r calls
