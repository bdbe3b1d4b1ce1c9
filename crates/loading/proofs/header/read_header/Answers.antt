use Rattle.std.proofs.Common.{arith, rules, codes}
use Rattle.std.proofs.lemmas.Result.{err_from_is_err_and}
use Rattle.words.specs.Reading.{exact, as_number}
use Rattle.loading.specs.Headers.{kind_name, order_name, bench_form, kind_form, order_form, objects_form, lines_form, header_of}
use Rattle.loading.proofs.Literals.{stops_bench, stops_kind, stops_order, stops_objects, stops_literals, stops_lines, says_all}
use Rattle.loading.proofs.header.read_header.Goals as goal

pub returns-in_err-worded_line-clause-value : goal.returns-in_err-worded_line-clause-value
unfolding bench_form
returns-in_err-worded_line-clause-value c =
    let p = err_from_is_err_and c.from_residual.result c.from_residual.ensures.1 in
    let bench = c.in_err-worded_line.ensures.form (exact (codes "2")) (λ t r q. search rules) in
    rw (p.1, p.2) (stops_bench c.args.lines.now c.requires _ c.worded_line.new.lines bench)

pub returns-in_err-kind-clause-value : goal.returns-in_err-kind-clause-value
unfolding bench_form kind_form
returns-in_err-kind-clause-value c =
    let p = err_from_is_err_and c.from_residual-in_err-kind.result c.from_residual-in_err-kind.ensures.1 in
    let bench = c.in_ok-worded_line.ensures.form (exact (codes "2")) (λ t r q. search rules) in
    let kind = c.in_err-kind.ensures.form kind_name (λ t r q. search rules) in
    rw (p.1, p.2) (stops_kind c.args.lines.now c.requires c.worded_line.new.lines bench _ c.worded_line-2.new.lines kind)

pub returns-in_err-order-clause-value : goal.returns-in_err-order-clause-value
unfolding bench_form kind_form order_form
returns-in_err-order-clause-value c =
    let p = err_from_is_err_and c.from_residual-in_err-order.result c.from_residual-in_err-order.ensures.1 in
    let bench = c.in_ok-worded_line.ensures.form (exact (codes "2")) (λ t r q. search rules) in
    let kind = c.in_ok-kind.ensures.form kind_name (λ t r q. search rules) in
    let order = c.in_err-order.ensures.form order_name (λ t r q. search rules) in
    rw (p.1, p.2) (stops_order c.args.lines.now c.requires c.worded_line.new.lines bench _ c.worded_line-2.new.lines kind _ c.worded_line-3.new.lines order)

pub returns-in_err-objects-clause-value : goal.returns-in_err-objects-clause-value
unfolding bench_form kind_form order_form objects_form
returns-in_err-objects-clause-value c =
    let p = err_from_is_err_and c.from_residual-in_err-objects.result c.from_residual-in_err-objects.ensures.1 in
    let bench = c.in_ok-worded_line.ensures.form (exact (codes "2")) (λ t r q. search rules) in
    let kind = c.in_ok-kind.ensures.form kind_name (λ t r q. search rules) in
    let order = c.in_ok-order.ensures.form order_name (λ t r q. search rules) in
    let objects = c.in_err-objects.ensures.form (as_number 1 16) (λ t r q. search rules) in
    rw (p.1, p.2) (stops_objects c.args.lines.now c.requires c.worded_line.new.lines bench _ c.worded_line-2.new.lines kind _ c.worded_line-3.new.lines order _ c.worded_line-4.new.lines objects)

pub returns-in_err-words-clause-value : goal.returns-in_err-words-clause-value
unfolding bench_form kind_form order_form objects_form
returns-in_err-words-clause-value c =
    let p = err_from_is_err_and c.from_residual-in_err-words.result c.from_residual-in_err-words.ensures.1 in
    let bench = c.in_ok-worded_line.ensures.form (exact (codes "2")) (λ t r q. search rules) in
    let kind = c.in_ok-kind.ensures.form kind_name (λ t r q. search rules) in
    let order = c.in_ok-order.ensures.form order_name (λ t r q. search rules) in
    let objects = c.in_ok-objects.ensures.form (as_number 1 16) (λ t r q. search rules) in
    rw (p.1, p.2) (stops_literals c.args.lines.now c.requires c.worded_line.new.lines bench _ c.worded_line-2.new.lines kind _ c.worded_line-3.new.lines order _ c.worded_line-4.new.lines objects header_of _ c.read_literals.new.lines c.read_literals.new.lines c.in_err-words.ensures.value)

pub returns-in_err-count-clause-value : goal.returns-in_err-count-clause-value
unfolding bench_form kind_form order_form objects_form lines_form
returns-in_err-count-clause-value c =
    let p = err_from_is_err_and c.from_residual-in_err-count.result c.from_residual-in_err-count.ensures.1 in
    let bench = c.in_ok-worded_line.ensures.form (exact (codes "2")) (λ t r q. search rules) in
    let kind = c.in_ok-kind.ensures.form kind_name (λ t r q. search rules) in
    let order = c.in_ok-order.ensures.form order_name (λ t r q. search rules) in
    let objects = c.in_ok-objects.ensures.form (as_number 1 16) (λ t r q. search rules) in
    let lines = c.in_err-count.ensures.form (as_number 0 256) (λ t r q. search rules) in
    rw (p.1, p.2) (stops_lines c.args.lines.now c.requires c.worded_line.new.lines bench _ c.worded_line-2.new.lines kind _ c.worded_line-3.new.lines order _ c.worded_line-4.new.lines objects _ c.read_literals.new.lines c.in_ok-words.ensures.value c.in_ok-words.ensures.number _ c.worded_line-5.new.lines lines)

pub returns : goal.returns
unfolding bench_form kind_form order_form objects_form lines_form
returns c =
    let bench = c.in_ok-worded_line.ensures.form (exact (codes "2")) (λ t r q. search rules) in
    let kind = c.in_ok-kind.ensures.form kind_name (λ t r q. search rules) in
    let order = c.in_ok-order.ensures.form order_name (λ t r q. search rules) in
    let objects = c.in_ok-objects.ensures.form (as_number 1 16) (λ t r q. search rules) in
    let lines = c.in_ok-count.ensures.form (as_number 0 256) (λ t r q. search rules) in
    let all = says_all c.args.lines.now c.requires c.worded_line.new.lines bench _ c.worded_line-2.new.lines kind _ c.worded_line-3.new.lines order _ c.worded_line-4.new.lines objects _ c.read_literals.new.lines c.in_ok-words.ensures.value c.in_ok-words.ensures.number _ c.worded_line-5.new.lines lines in
    record { value = all.0; number = omega (arith, all.1, c.in_ok-words.ensures.count) }
