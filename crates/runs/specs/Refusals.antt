-- The refusals of a bench's calls, each with its number.
use Rattle.std.specs.Prelude.{ℕ}
pub use Rattle.runs.specs.declared.refusal.Refusal.{Refusal}
pub use Rattle.runs.specs.declared.refusal.Refusal.TheVariants.{NothingToOffer, Foreign, Unsettled, BufferTooShort}

abbrev pub refusal_number : Refusal → ℕ
refusal_number NothingToOffer = 7
refusal_number Foreign = 8
refusal_number Unsettled = 9
refusal_number BufferTooShort = 10
