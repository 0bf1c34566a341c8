use borrow.Author.Rules.{rules}
use Rattle.records.specs.Marks.{row}
use Rattle.lookup.proofs.Parts.{slots-most}
use Rattle.lookup.proofs.lookup_part_in.Goals as goal

pub part_in-requires-2 : goal.part_in-requires-2
part_in-requires-2 g c = (search rules, c.requires.2, slots-most (row c.args.kind))
