-- Answers for other languages: one 64-bit number, class × 2^56 + a × 2^32 + b.
use Rattle.std.specs.Prelude.{ℕ, ◌+◌, ◌*◌, ◌%◌, Ok, Err}
use Rattle.records.specs.Answers.{Answer}
use Rattle.lookup.specs.declared.Part.{Part}
use Rattle.verdicts.specs.declared.Verdict.{Verdict}
use Rattle.verdicts.specs.declared.Verdict.TheVariants.{Passes, Fails, Refused}
use Rattle.layout.specs.Written.{Written}

-- a in 24 bits and b in 32, so that no class is touched: only an offer longer than 4 GB has a place that is cut
abbrev pub coded : ℕ → ℕ → ℕ → ℕ
coded class a b = class * 72057594037927936 + a % 16777216 * 4294967296 + b % 4294967296

-- class 0 accepted; class 2 refused, number a, place b
unfoldable pub answer_code : Answer → ℕ
answer_code (Ok x) = 0
answer_code (Err r) = coded 2 r.number r.place

-- a part: class 0, a = start, b = length
unfoldable pub part_code : Part → ℕ
part_code p = coded 0 p.start p.length

-- class 0 with the 66 words written; class 2 refused
unfoldable pub words_code : Answer → ℕ
words_code (Ok x) = 66
words_code (Err r) = coded 2 r.number r.place

-- class 0 passes; class 1 fails, pair a, lamination b; class 2 refused
unfoldable pub verdict_code : Verdict → ℕ
verdict_code Passes = 0
verdict_code (Fails k i) = coded 1 k i
verdict_code (Refused n p) = coded 2 n p

-- class 0 with the length written; class 2 refused
unfoldable pub written_code : Written → ℕ
written_code (Ok n) = coded 0 0 n
written_code (Err r) = coded 2 r.number r.place

-- class 0 with the 2,016 intervals written; class 2 refused
unfoldable pub week_code : Answer → ℕ
week_code (Ok x) = 2016
week_code (Err r) = coded 2 r.number r.place
