-- How the report's numbers and words are written as bytes. A text is left-nested in `++`.
use Rattle.std.specs.Prelude.{cond, List, [], ◌∷◌, ◌++◌, ℕ, zero, suc, ◌+◌, ◌/◌, ◌%◌, ltb, length, drop}

-- "Written to the unused tail of a lent buffer": what a buffer holds after a text was written at its front; the bytes past the text stay
abbrev pub over : List ℕ → List ℕ → List ℕ
over text buf = text ++ drop (length text) buf

-- a number from 0 to 9 as one byte
abbrev pub digit : ℕ → List ℕ
digit d = (48 + d) ∷ []

-- n in decimal, in at most f digits: what stands before the last digit is a tenth of n
unfoldable pub decimal_in : ℕ → ℕ → List ℕ
decimal_in zero n = []
decimal_in (suc f) n = cond (ltb n 10) (digit n) (decimal_in f (n / 10) ++ digit (n % 10))

-- "Amounts have no leading zeros but a lone one before the point"; 20 digits are enough for 64 bits
unfoldable pub decimal : ℕ → List ℕ
decimal n = decimal_in 20 n

-- the decimal point
abbrev pub point : List ℕ
point = 46 ∷ []

-- "outputs in MW", kept in tenths of a MW: a point before the last digit
unfoldable pub tenths : ℕ → List ℕ
tenths n = decimal (n / 10) ++ point ++ digit (n % 10)

-- "levels are in dollars", kept in cents: a point before the last two digits
unfoldable pub hundredths : ℕ → List ℕ
hundredths n = tenths (n / 10) ++ digit (n % 10)

-- The words of the report, with the spaces about them.

-- `profile `
abbrev pub profile_word : List ℕ
profile_word = 112 ∷ 114 ∷ 111 ∷ 102 ∷ 105 ∷ 108 ∷ 101 ∷ 32 ∷ []

-- `energy `
abbrev pub energy_word : List ℕ
energy_word = 101 ∷ 110 ∷ 101 ∷ 114 ∷ 103 ∷ 121 ∷ 32 ∷ []

-- `start `
abbrev pub start_word : List ℕ
start_word = 115 ∷ 116 ∷ 97 ∷ 114 ∷ 116 ∷ 32 ∷ []

-- `no-load `
abbrev pub no_load_word : List ℕ
no_load_word = 110 ∷ 111 ∷ 45 ∷ 108 ∷ 111 ∷ 97 ∷ 100 ∷ 32 ∷ []

-- `reserve `
abbrev pub reserve_word : List ℕ
reserve_word = 114 ∷ 101 ∷ 115 ∷ 101 ∷ 114 ∷ 118 ∷ 101 ∷ 32 ∷ []

-- `retired `
abbrev pub retired_word : List ℕ
retired_word = 114 ∷ 101 ∷ 116 ∷ 105 ∷ 114 ∷ 101 ∷ 100 ∷ 32 ∷ []

-- `refused `
abbrev pub refused_word : List ℕ
refused_word = 114 ∷ 101 ∷ 102 ∷ 117 ∷ 115 ∷ 101 ∷ 100 ∷ 32 ∷ []

-- ` at `
abbrev pub at_word : List ℕ
at_word = 32 ∷ 97 ∷ 116 ∷ 32 ∷ []

-- one space
abbrev pub space : List ℕ
space = 32 ∷ []

-- the line end, byte 10
abbrev pub newline : List ℕ
newline = 10 ∷ []

-- the line `refused N at P`, with its end
unfoldable pub refusal_line : ℕ → ℕ → List ℕ
refusal_line n p = refused_word ++ decimal n ++ at_word ++ decimal p ++ newline
