-- Every definition from `lists` up to this layer, to compute with: `unfolding computed` under a signature opens all that this one's line names.
use Prim.Native.Nat.{ℕ}
use Rattle.lists.specs.Lists.{joined, those}
use Rattle.lists.specs.Sums.{up_to}
use Rattle.lists.specs.Tests.{all_below, all_to, count_to, every, every_of, among, between}
use Rattle.fields.specs.Numbers.{number, bytes_onto, bytes_of, signed, biased, biased_of, unbiased}
use Rattle.records.specs.Answers.{or_else, refuse_if, drawn, is_accepted, answer_numbers, number_of, place_of}
use Rattle.records.specs.Made.{values_in, made, made_from, pair}
use Rattle.records.specs.Dossier.{first_of, rest_of, records_in, records, money_at_in, money_at, first_drawn, scan}
use Rattle.records.specs.Raise.{limit_of}
use Rattle.records.specs.Record.{mark_in, mark, issue, is_dated, kind_of, kind, since, fields_at, told}
use Rattle.records.specs.Record.{widths, size, offset_in, offset, key_in, key_width, key_of, money_in, money_byte, read, value, in_range}
use Rattle.records.specs.Record.{agrees, ranges_hold, fault}
use Rattle.records.specs.MarkShapes.{shape, shapes, shape_of, key_field, key_fits, key_test, body}
use Rattle.records.specs.Table.{table, row_of, field_of}
use Rattle.station.specs.Current.{matches, better, current_from, current, start_from, start_of, present, twin, any_twin, twins, readable, lookup, lookup_bytes}
use Rattle.station.specs.InForce.{come, counts_at, counts, speaks_to, in_force}
use Rattle.station.specs.Parameters.{parameters, amounts}
use Rattle.station.specs.Week.{week_price, week_energy, week_prices, week_energies}
use Rattle.rules.specs.Answer.{unsupported, records_answer, answer}
use Rattle.rules.specs.Curve.{points, rise, curve_holds, curve_fits, fuel_holds, full_hours, hours_hold, window_fits, places_hold, forecast_fits}
use Rattle.rules.specs.Fit.{levels_of, holds, field_fits, rule_fits, fits, unfit}
use Rattle.rules.specs.Week.{week_answer, prices_after, energies_after}

-- how many definitions there are to open
unfoldable pub computed : ℕ
unfolding joined those up_to all_below all_to count_to every every_of among between number bytes_onto bytes_of signed biased biased_of unbiased or_else refuse_if drawn is_accepted answer_numbers number_of place_of values_in made made_from pair first_of rest_of records_in records money_at_in money_at first_drawn scan limit_of mark_in mark issue is_dated kind_of kind since fields_at told widths size offset_in offset key_in key_width key_of money_in money_byte read value in_range agrees ranges_hold fault shape shapes shape_of key_field key_fits key_test body table row_of field_of matches better current_from current start_from start_of present twin any_twin twins readable lookup lookup_bytes come counts_at counts speaks_to in_force parameters amounts week_price week_energy week_prices week_energies unsupported records_answer answer points rise curve_holds curve_fits fuel_holds full_hours hours_hold window_fits places_hold forecast_fits levels_of holds field_fits rule_fits fits unfit week_answer prices_after energies_after
computed = 117
