-- The rows hold, by computation.
use Rattle.std.proofs.Common.{refl}
use Rattle.std.specs.Fmt.{digits}
use Rattle.cards.specs.Code.{◌before◌}
use Rattle.cards.specs.Bounds.{step_bound, statement_steps, task_bound, statement_tasks}
use Rattle.words.specs.Numbers.{reads, number}
use Rattle.words.specs.Reading.{is_word}
use Rattle.loading.specs.Lines.{verb, line_said}
use Rattle.loading.specs.Texts.{text_line, section}
use Rattle.loading.specs.Blocks.{read_section, read_block}
use Rattle.loading.specs.Headers.{bench_form, kind_form, order_form, objects_form, lines_form, literal_form, literals_after, next_line, next_literals, read_header}
use Rattle.loading.specs.Loading.{read_body, reading}
use Rattle.working.specs.Tasks.{main, starting_words}
use Rattle.working.specs.Requests.{changed, continued, with_word, with_pointer, word, pointer, endowed, child, maker, after_with, after_task, under, statement_request, block_request, request, stored, reply}
use Rattle.working.specs.Serial.{segment, made_by, by_reply, serial, serially}
use Rattle.sheets.specs.Sheets.{outcome_sheet, result_sheet, sheet_of}
use Rattle.runner.specs.Texts.{text_sheet}
use Rattle.runner.specs.Rows.{WorkedRows}

pub worked_rows : WorkedRows
unfolding digits ◌before◌ step_bound statement_steps task_bound statement_tasks reads number is_word verb line_said text_line section read_section read_block bench_form kind_form order_form objects_form lines_form literal_form literals_after next_line next_literals read_header read_body reading main starting_words changed continued with_word with_pointer word pointer endowed child maker after_with after_task under statement_request block_request request stored reply segment made_by by_reply serial serially outcome_sheet result_sheet sheet_of text_sheet
worked_rows = record {
  no_lines_bound = refl;
  no_lines_sheet = refl;
  tasks_64 = refl;
  tasks_65 = refl;
  tasks_65_sheet = refl;
  steps_1000000 = refl;
  steps_1000001 = refl;
  flags_join = refl;
  flags_add = refl;
  unread = refl;
  put_off = refl;
  ninth = refl;
  example = refl;
}
