-- The marks that code names, as rows of the table.
use Rattle.std.specs.Prelude.{ℕ}
use Rattle.records.specs.declared.marks.Mark.{Mark}
use Rattle.records.specs.declared.marks.Mark.TheVariants.{Unknown, RS, HP, FU, AD, MM, RQ, HR, CH, TH, FP, LC, AO, FV, AV, MV}
use Rattle.records.specs.Table

-- a mark's place in the table, from 1; 0 is an unknown mark
abbrev pub row : Mark → ℕ
row Unknown = 0
row RS = Table.RS
row HP = Table.HP
row FU = Table.FU
row AD = Table.AD
row MM = Table.MM
row RQ = Table.RQ
row HR = Table.HR
row CH = Table.CH
row TH = Table.TH
row FP = Table.FP
row LC = Table.LC
row AO = Table.AO
row FV = Table.FV
row AV = Table.AV
row MV = Table.MV
