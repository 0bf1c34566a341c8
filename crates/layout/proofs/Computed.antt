-- Every definition of the layers, to compute with: `unfolding computed` under a signature opens all that this one's line names, and all that those of the
-- layers below open.
use Prim.Native.Nat.{ℕ, ◌+◌}
use Rattle.verdicts.proofs.Computed.{computed as below}
use Rattle.text.specs.Text.{decimal_in, decimal, tenths, hundredths, refusal_line}
use Rattle.layout.specs.Report.{number_line, energy_line, amount_line, level_line, level_lines, report_text, report, short_for, buffer_with, written}
use Rattle.layout.specs.Report.{written_numbers, report_answer, buffer_after, printed, prints}

-- how many definitions there are to open
unfoldable pub computed : ℕ
unfolding below decimal_in decimal tenths hundredths refusal_line number_line energy_line amount_line level_line level_lines report_text report short_for buffer_with written written_numbers report_answer buffer_after printed prints
computed = below + 20
