-- One line, and then the rest of a sheet.
use Rattle.std.proofs.Common.{◌≡◌, ℕ, List, [], ◌∷◌, ◌++◌, codes, sym, ap, ◌∙◌, append_assoc}
use Prim.Native.String.{String}
use Rattle.sheets.specs.Sheets.{line}

-- the line of a text, which was written as s
pub line_then : (w : String) (s text rest : List ℕ) → s ≡ text → line w text rest ≡ line w s [] ++ rest
line_then w s text rest e =
    ap (λ x. line w x rest) (sym e)
    ∙ ap (λ x. codes w ++ (32 ∷ x)) (sym (append_assoc s (10 ∷ []) rest))
    ∙ sym (append_assoc (codes w) (32 ∷ (s ++ (10 ∷ []))) rest)
