-- The examples hold, by computation.
use Rattle.std.proofs.Common.{refl}
use Rattle.std.specs.Fmt.{digits}
use Rattle.cards.specs.Code.{◌before◌}
use Rattle.cards.specs.Bounds.{step_bound}
use Rattle.working.specs.Tasks.{main, starting_words}
use Rattle.working.specs.Requests.{changed, continued, with_word, with_pointer, word, pointer, endowed, child, maker, after_with, after_task, under, statement_request, block_request, request, stored, reply}
use Rattle.working.specs.Serial.{made_by}
use Rattle.sheets.specs.Sheets.{outcome_sheet}
use Rattle.runs.specs.Lines.{is_out, is_stuck, member, with_status, find, replace, any_out}
use Rattle.runs.specs.Queues.{on, declares, queue, earlier}
use Rattle.runs.specs.Ready.{passes, clear, clear_for, each, ready, on_offer, offered}
use Rattle.runs.specs.Benches.{bench, opened, offer, settled_line, settled, stuck_outcome, line_outcome, outcome}
use Rattle.runs.specs.Steps.{marked, members, after_reply, replied, step, put, advanced, shut}
use Rattle.runs.specs.Events.{can_take, has_turn, can_close, grants, effect, apply, replay}
use Rattle.runs.specs.Left.{weight, left}
use Rattle.runs.specs.BenchSheets.{settled_sheet, bench_sheet}
use Rattle.runs.specs.Tests.{fits_going, fits_closed, fits_turn, fits, unless, not_empty, too_long, own_refusal, refusal}
use Rattle.runs.specs.Answers.{reply_answer, step_answer, turned, worked_off, write_out, granted, answered, answer, sheet_call}
use Rattle.runs.specs.Examples.{WorkedExamples}

pub worked_examples : WorkedExamples
unfolding digits ◌before◌ step_bound main starting_words changed continued with_word with_pointer word pointer endowed child maker after_with after_task under statement_request block_request request stored reply made_by outcome_sheet is_out is_stuck member with_status find replace any_out on declares queue earlier passes clear clear_for each ready on_offer offered bench opened offer settled_line settled stuck_outcome line_outcome outcome marked members after_reply replied step put advanced shut can_take has_turn can_close grants effect apply replay weight left settled_sheet bench_sheet fits_going fits_closed fits_turn fits unless not_empty too_long own_refusal refusal reply_answer step_answer turned worked_off write_out granted answered answer sheet_call
worked_examples = record {
  backwards_closes = refl;
  side_by_side_closes = refl;
  sheet_written = refl;
  buffer_too_short = refl;
  first_faults_first = refl;
  second_faults_first = refl;
  second_faults_alone = refl;
  both_out = refl;
  refusals = refl;
}
