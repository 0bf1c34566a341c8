-- One record: its mark, issue, key and fields, where its money lies, and what it draws of 1, 2 and 3. All of it follows
-- from the table.
use Rattle.std.specs.Prelude.{Bool, true, false, cond, ◌&&◌, ◌||◌, List, [], ◌∷◌, map, ℕ, zero, suc, ◌+◌, leb, ltb, eqb, length, get_or}
use Rattle.lists.specs.Tests.{among, all_below, between}
use Rattle.fields.specs.Numbers.{number, biased}
use Rattle.records.specs.Table.{Role, key, plain, money, Field, Row, table, row_of, field_of, hydro, RS, RQ}

-- ---- "Each begins with a two-byte ASCII mark and a 4-byte issue number."

-- the mark of two bytes among rows counted from k on; 0 where none has them
unfoldable pub mark_in : ℕ → List Row → ℕ → ℕ → ℕ
mark_in k [] a b = 0
mark_in k (x ∷ l) a b = cond (eqb a x.first && eqb b x.second) k (mark_in (suc k) l a b)

-- "The mark is compared as two fixed bytes."
unfoldable pub mark : List ℕ → ℕ
mark r = mark_in 1 table (get_or r 0 0) (get_or r 1 0)

-- the 4-byte issue number
unfoldable pub issue : List ℕ → ℕ
issue r = number 2 4 r

-- mark and issue
abbrev pub head : ℕ
head = 6

-- ---- the first hour: "FV, AV and MV are FU, AD and MM with a first hour (4) after the issue"

-- whether mark k has one
unfoldable pub is_dated : ℕ → Bool
is_dated k = ltb 0 (row_of k).dates

-- the mark that mark k is but for a first hour: FU for FU and FV
unfoldable pub kind_of : ℕ → ℕ
kind_of k = cond (is_dated k) (row_of k).dates k

-- of a record
unfoldable pub kind : List ℕ → ℕ
kind r = kind_of (mark r)

-- whether some mark is mark k with a first hour
unfoldable pub datable : ℕ → Bool
datable k = among k (map (λ x. x.dates) table)

-- the hour from which a record counts: its first hour; "The old marks count from hour 0."
unfoldable pub since : List ℕ → ℕ
since r = cond (is_dated (mark r)) (number head 4 r) 0

-- ---- where the fields lie: behind mark, issue and first hour

-- where the fields of a row begin
abbrev pub fields_from : Row → ℕ
fields_from x = cond (ltb 0 x.dates) 10 head

-- and those of mark k
unfoldable pub fields_at : ℕ → ℕ
fields_at k = fields_from (row_of k)

-- "Bytes per field in brackets": the bytes of some fields
unfoldable pub widths : List Field → ℕ
widths [] = 0
widths (f ∷ l) = f.width + widths l

-- a mark's whole length
unfoldable pub size : ℕ → ℕ
size k = fields_at k + widths (row_of k).fields

-- where field i begins, the first of the list beginning at o
unfoldable pub offset_in : ℕ → List Field → ℕ → ℕ
offset_in o [] i = o
offset_in o (f ∷ l) zero = o
offset_in o (f ∷ l) (suc i) = offset_in (o + f.width) l i

-- where field i of mark k begins
unfoldable pub offset : ℕ → ℕ → ℕ
offset k i = offset_in (fields_at k) (row_of k).fields i

-- ---- the key: the key fields stand first

-- whether a field belongs to the key
abbrev pub is_key : Role → Bool
is_key key = true
is_key plain = false
is_key money = false

-- the bytes of the key fields
unfoldable pub key_in : List Field → ℕ
key_in [] = 0
key_in (f ∷ l) = cond (is_key f.role) (f.width + key_in l) 0

-- how many bytes a mark's key takes
unfoldable pub key_width : ℕ → ℕ
key_width k = key_in (row_of k).fields

-- a record's key: the bytes of its key fields as one number
unfoldable pub key_of : List ℕ → ℕ
key_of r = number (fields_at (mark r)) (key_width (mark r)) r

-- ---- the money

-- "The money amounts are FU's fuel and emission, AD's amount, MM's C, and HR's and CH's price": whether a field is one
abbrev pub is_money : Role → Bool
is_money key = false
is_money plain = false
is_money money = true

-- whether byte i lies in a money amount, the first of the fields beginning at byte o
unfoldable pub money_in : ℕ → List Field → ℕ → Bool
money_in o [] i = false
money_in o (f ∷ l) i = is_money f.role && (leb o i && ltb i (o + f.width)) || money_in (o + f.width) l i

-- whether byte i of a record of mark k lies in a money amount
unfoldable pub money_byte : ℕ → ℕ → Bool
money_byte k i = money_in (fields_at k) (row_of k).fields i

-- ---- what a field says

-- a field that begins at byte o, a price plus 2^31
unfoldable pub read : Field → ℕ → List ℕ → ℕ
read f o r = cond f.is_signed (biased (number o f.width r)) (number o f.width r)

-- field i of a record of mark k
unfoldable pub value : ℕ → ℕ → List ℕ → ℕ
value k i r = read (field_of k i) (offset k i) r

-- field i of a record of kind k, with a first hour or without: its own mark says where it lies; of no record it is 0, a price 0 cents
unfoldable pub told : ℕ → ℕ → List ℕ → ℕ
told k i r = read (field_of k i) (offset (mark r) i) r

-- ---- 1, 2, 3

-- a value in its field's range
unfoldable pub in_range : Field → ℕ → Bool
in_range f x = f.or_zero && eqb x 0 || between f.lowest f.highest x

-- the rules between fields: RQ's "first not after last"; of RS, a window "up to 4,000" for hydroelectric alone, else to 168
unfoldable pub agrees : ℕ → List ℕ → Bool
agrees k r =
    cond (eqb k RQ) (leb (value RQ 1 r) (value RQ 2 r))
    (cond (eqb k RS) (eqb (value RS 0 r) hydro || leb (value RS 8 r) 168)
    true)

-- no field is outside its range, "RQ's first hour after its last among them"
unfoldable pub ranges_hold : ℕ → List ℕ → Bool
ranges_hold k r = all_below (length (row_of k).fields) (λ i. in_range (field_of k i) (value k i r)) && agrees k r

-- "1 unknown mark; 2 record cut short; 3 field outside its range"; "One byte left over is 2"; 0 where nothing is wrong
unfoldable pub fault : List ℕ → ℕ
fault r =
    cond (ltb (length r) 2) 2
    (cond (eqb (mark r) 0) 1
    (cond (ltb (length r) (size (mark r))) 2
    (cond (ranges_hold (mark r) r) 0 3)))
