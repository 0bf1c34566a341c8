-- The code's table of marks and what it reads there.
-- All of it follows from the table of marks.
use Rattle.std.specs.Prelude.{Bool, cond, ◌&&◌, ◌||◌, List, [], ◌∷◌, map, ℕ, ◌+◌, ◌/◌, ◌%◌, ltb, eqb, length, get_or, drop}
use Rattle.lists.specs.Tests.{all_below, between}
use Rattle.records.specs.declared.MarkShape.{MarkShape}
use Rattle.records.specs.Table.{Field, Row, no_field, no_row, table, row_of, field_of, AO}
use Rattle.records.specs.Record.{mark, is_dated, fields_from, widths, offset_in, is_key, key_in, key_width, read, in_range}

-- a bound of field i of a row, if the field belongs to the key, else 0
abbrev pub key_bound : (Field → ℕ) → Row → ℕ → ℕ
key_bound g x i = cond (is_key (get_or x.fields i no_field).role) (g (get_or x.fields i no_field)) 0

-- "const table by kind: length, key width, lowest and highest key fields": the whole length, the key's width, the bounds of the key fields
unfoldable pub shape : Row → MarkShape
shape x =
    record {
      length = fields_from x + widths x.fields;
      width = key_in x.fields;
      lowest = key_bound (λ f. f.lowest) x 0 ∷ key_bound (λ f. f.lowest) x 1 ∷ key_bound (λ f. f.lowest) x 2 ∷ key_bound (λ f. f.lowest) x 3 ∷ [];
      highest = key_bound (λ f. f.highest) x 0 ∷ key_bound (λ f. f.highest) x 1 ∷ key_bound (λ f. f.highest) x 2 ∷ key_bound (λ f. f.highest) x 3 ∷ [];
    }

-- no record of a known mark is shorter: the law `size-least`
abbrev pub shortest : ℕ
shortest = 10

-- of every mark, an unknown one first
unfoldable pub shapes : List MarkShape
shapes = map shape (no_row ∷ table)

-- of mark k
unfoldable pub shape_of : ℕ → MarkShape
shape_of k = shape (row_of k)

-- whether a number is within the bounds of key field i
unfoldable pub key_field : MarkShape → ℕ → ℕ → Bool
key_field m i x = between (get_or m.lowest i 0) (get_or m.highest i 0) x

-- whether a number is a key of this shape: one field, or two to four of a byte each
unfoldable pub key_fits : MarkShape → ℕ → Bool
key_fits m n =
    cond (eqb (get_or m.highest 1 0) 0) (key_field m 0 n)
    (cond (eqb (get_or m.highest 2 0) 0) (key_field m 0 (n / 256) && key_field m 1 (n % 256))
    (cond (eqb (get_or m.highest 3 0) 0) (key_field m 0 (n / 65536) && key_field m 1 (n / 256 % 256) && key_field m 2 (n % 256))
    (key_field m 0 (n / 16777216) && key_field m 1 (n / 65536 % 256) && key_field m 2 (n / 256 % 256) && key_field m 3 (n % 256))))

-- whether a number is a key of mark k
unfoldable pub key_test : ℕ → ℕ → Bool
key_test k n = ltb 0 k && key_fits (shape_of k) n

-- few records have such a mark: it has a first hour, no key, or an owner
unfoldable pub rare : ℕ → Bool
rare k = is_dated k || eqb (key_width k) 0 || eqb k AO

-- whether the fields of mark k are in their ranges, read from byte o on
unfoldable pub fields_hold : ℕ → ℕ → List ℕ → Bool
fields_hold k o r = all_below (length (row_of k).fields) (λ i. in_range (field_of k i) (read (field_of k i) (offset_in o (row_of k).fields i) r))

-- whether some bytes begin with two letters
abbrev pub begins : List ℕ → ℕ → ℕ → Bool
begins s a b = eqb (get_or s 0 0) a && eqb (get_or s 1 0) b

-- a record from where its fields lie as its kind has them: a first hour takes four bytes
unfoldable pub body : List ℕ → List ℕ
body r = cond (is_dated (mark r)) (drop 4 r) r
