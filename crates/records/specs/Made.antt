-- A record from its numbers, through the table, and a pair of an offer: what worked cases are made of.
use Rattle.std.specs.Prelude.{List, [], ◌∷◌, ◌++◌, ℕ, ◌-◌}
use Rattle.fields.specs.Numbers.{bytes_of}
use Rattle.records.specs.Table.{Field, row_of}

-- a negative number in four bytes
abbrev pub minus : ℕ → ℕ
minus n = 4294967296 - n

-- values in the widths of some fields
unfoldable pub values_in : List Field → List ℕ → List ℕ
values_in [] vs = []
values_in (f ∷ l) [] = []
values_in (f ∷ l) (v ∷ vs) = bytes_of f.width v ++ values_in l vs

-- the record of mark k, issue i and these values
unfoldable pub made : ℕ → ℕ → List ℕ → List ℕ
made k i vs = (row_of k).first ∷ (row_of k).second ∷ bytes_of 4 i ++ values_in (row_of k).fields vs

-- the record of a mark with a first hour: mark k, issue i, first hour h and these values
unfoldable pub made_from : ℕ → ℕ → ℕ → List ℕ → List ℕ
made_from k i h vs = (row_of k).first ∷ (row_of k).second ∷ bytes_of 4 i ++ (bytes_of 4 h ++ values_in (row_of k).fields vs)

-- one pair of an energy offer
unfoldable pub pair : ℕ → ℕ → List ℕ
pair quantity price = bytes_of 2 quantity ++ bytes_of 4 price
