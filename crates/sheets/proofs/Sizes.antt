-- The sheet of a run with at most 16 words, and that of a fault with at most 8 ranks, have at most 512 bytes.
use Rattle.std.proofs.Common.{◌≡◌, ℕ, suc, ◌+◌, ◌*◌, ◌^◌, ◌<◌, ◌≤◌, List, [], ◌∷◌, ◌++◌, length, get_or, ℤ, pos, negsuc, neg_ℤ, ◌≤ℤ◌, codes, decimal, arith, length-append, w8, w32, Fits}
use Prim.Native.String.{String}
use lib.Signed.{mag}
use Rattle.kinds.specs.Kinds.{Kind, Lawful}
use Rattle.std.specs.Fmt.{signed_decimal}
use Rattle.std.proofs.lemmas.Fmt.{length-decimal-le, length_signed_le}
use Rattle.std.proofs.lemmas.Int.{ints}
use Rattle.working.specs.declared.fault.FaultKind.{FaultKind}
use Rattle.working.specs.declared.fault.FaultKind.TheVariants.{Read, Write, Join, Declare}
use Rattle.sheets.specs.Sheets.{line, fault_name, ranks_text, place_text, numbers, run_sheet, fault_sheet}

length_line : (w : String) (text rest : List ℕ) → length (line w text rest) ≡ length (codes w) + length text + length rest + 2
length_line w text rest = omega (arith, length-append (codes w) (32 ∷ (text ++ (10 ∷ rest))), length-append text (10 ∷ rest))

mag_le : (z : ℤ) → neg_ℤ (pos (2 ^ 32)) ≤ℤ z → z ≤ℤ pos (2 ^ 32) → mag z ≤ 2 ^ 32
mag_le (pos n) least greatest = omega (arith, ints)
mag_le (negsuc n) least greatest = omega (arith, ints)

length_number : (k : Kind) → Lawful k → (w : ℕ) → Fits w32 w → length (signed_decimal (k.number w)) ≤ 11
length_number k law w f =
    let m : mag (k.number w) ≤ 2 ^ 32 = mag_le (k.number w) (law.least w f.fits) (law.greatest w f.fits) in
    length_signed_le 10 (k.number w) (omega arith) (omega arith)

length_numbers : (k : Kind) → Lawful k → (ws : List ℕ) → ((i : ℕ) → Fits w32 (get_or ws i 0)) → length (numbers k ws) ≤ 12 * length ws
length_numbers k law [] f = omega arith
length_numbers k law (w ∷ ws) f = omega (arith, length-append (signed_decimal (k.number w)) (10 ∷ numbers k ws), length_number k law w (f 0), length_numbers k law ws (λ i. f (suc i)))

length_ranks : (ns : List ℕ) → ((i : ℕ) → Fits w8 (get_or ns i 0)) → length (ranks_text ns) ≤ 4 * length ns
length_ranks [] f = omega arith
length_ranks (n ∷ ns) f =
    let small : n < 2 ^ 8 = (f 0).fits in
    omega (arith, length-append (decimal n) (ranks_text ns), length-decimal-le 3 n (omega arith) (omega arith) (omega arith), length_ranks ns (λ i. f (suc i)))

length_name : (f : FaultKind) → length (fault_name f) ≤ 7
length_name Read = omega arith
length_name Write = omega arith
length_name Join = omega arith
length_name Declare = omega arith

length_word : (n : ℕ) → Fits w32 n → length (decimal n) ≤ 10
length_word n f = let small : n < 2 ^ 32 = f.fits in length-decimal-le 10 n (omega arith) (omega arith) (omega arith)

pub length_run : {k : Kind} {made steps : ℕ} (ws : List ℕ) → Lawful k → Fits w32 made → Fits w32 steps → ((i : ℕ) → Fits w32 (get_or ws i 0)) → length ws ≤ 16 → length (run_sheet k made steps ws) ≤ 512
length_run {k = k} {made = made} {steps = steps} ws law m s f few =
    omega (
      arith,
      length_line "run" (codes "2") (line "tasks" (decimal made) (line "steps" (decimal steps) (line "objects" (decimal (length ws)) (numbers k ws)))),
      length_line "tasks" (decimal made) (line "steps" (decimal steps) (line "objects" (decimal (length ws)) (numbers k ws))),
      length_line "steps" (decimal steps) (line "objects" (decimal (length ws)) (numbers k ws)),
      length_line "objects" (decimal (length ws)) (numbers k ws),
      length_word made m,
      length_word steps s,
      length-decimal-le 2 (length ws) (omega arith) (omega arith) (omega arith),
      length_numbers k law ws f,
    )

pub length_fault : {l : ℕ} (f : FaultKind) (p : List ℕ) → Fits w32 l → ((i : ℕ) → Fits w8 (get_or p i 0)) → length p ≤ 8 → length (fault_sheet f l p) ≤ 512
length_fault {l = l} f p n r few =
    omega (
      arith,
      length_line "fault" (codes "3") (line "kind" (fault_name f) (line "line" (decimal l) (line "task" (place_text p) []))),
      length_line "kind" (fault_name f) (line "line" (decimal l) (line "task" (place_text p) [])),
      length_line "line" (decimal l) (line "task" (place_text p) []),
      length_line "task" (place_text p) [],
      length-append (codes "main") (ranks_text p),
      length_name f,
      length_word l n,
      length_ranks p r,
    )
