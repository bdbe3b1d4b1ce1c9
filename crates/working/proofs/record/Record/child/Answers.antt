use Rattle.std.proofs.Common.{◌≡◌, List, take, replicate, sym, refl, ap, ◌∙◌, rules}
use Rattle.std.proofs.lemmas.List.{take_at}
use Rattle.std.proofs.lemmas.Result.{err_from_is_err_and}
use Rattle.cards.specs.declared.lines.Declaration.{Declaration}
use Rattle.working.specs.declared.record.Record.{Record}
use Rattle.working.specs.Tasks.{Declared, nothing}
use Rattle.working.specs.Requests.{accepted, endowed}
use Rattle.working.specs.Records.{declared_of, child_section}
use Rattle.working.proofs.Sections.{take_nothing}
use Rattle.working.proofs.record.Record.child.Goals as goal

-- what is endowed, where ms are the declarations of the maker
section_by : (w : Record) (ms : List Declared) (xs : List Declaration) → ms ≡ declared_of w → child_section w xs ≡ endowed w.pointers ms (take w.objects (replicate 16 nothing)) xs
section_by w ms xs e =
    ap (λ (ds : List Declared). endowed w.pointers (declared_of w) ds xs) (sym (take_nothing w.declared w.objects w.few w.wide))
    ∙ ap (λ (y : List Declared). endowed w.pointers y (take w.objects (replicate 16 nothing)) xs) (sym e)

pub returns-in_err-endow : goal.returns-in_err-endow
returns-in_err-endow c =
    let p = err_from_is_err_and c.from_residual.result c.from_residual.ensures.1 in
    rw (p.1, p.2) (section_by c.args.self.now _ _ c.declared.ensures ∙ c.in_err-endow.ensures)

pub returns : goal.returns
returns c =
    (section_by c.args.self.now _ _ c.declared.ensures ∙ c.in_ok-endow.ensures ∙ ap accepted (sym (take_at c.endow.new.ds _ c.args.self.now.objects (search rules))), refl, refl, refl)
