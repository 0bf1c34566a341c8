-- The table of marks: document 01's list and document 02's marks behind it, a row for each mark and a line for each field, in their order.
-- Lengths, keys, ranges, money and the limits of a raise all follow from it, so a later mark begins as one more row.
use Rattle.std.specs.Prelude.{Bool, true, false, List, [], ◌∷◌, ℕ, get_or}

-- the part that a field plays: it belongs to the key, it is a money amount, or neither
pub data Role : Type 0 where
  key plain money : Role

-- one field of a record
pub record Field : Type 0 where
  pub width : ℕ  -- in bytes
  pub lowest : ℕ  -- of its range; a price's plus 2^31
  pub highest : ℕ
  pub or_zero : Bool  -- its range is 0, or lowest to highest
  pub is_signed : Bool  -- two's complement, as a price is
  pub role : Role
  pub used_by : List ℕ  -- the technologies that use it; of any other it is 0
  pub positive : Bool  -- where it is used, it is above 0

-- one mark: its two letters, its fields after mark, issue and first hour, the technologies that may have such a record, and whether it has
-- a first hour
pub record Row : Type 0 where
  pub first : ℕ
  pub second : ℕ
  pub fields : List Field
  pub technologies : List ℕ
  pub dates : ℕ  -- the mark that it is with a first hour; 0 where it has none

-- "technology (1): 1 thermal"
abbrev pub thermal : ℕ
thermal = 1

-- "2 nuclear"
abbrev pub nuclear : ℕ
nuclear = 2

-- "3 storage"
abbrev pub storage : ℕ
storage = 3

-- "Technology 4 uses the window"
abbrev pub hydro : ℕ
hydro = 4

-- "thermal, nuclear and storage resources", and hydroelectric
abbrev pub all_technologies : List ℕ
all_technologies = thermal ∷ nuclear ∷ storage ∷ hydro ∷ []

-- ---- kinds of field

-- a field with all that is said of it, in the order of `Field`
abbrev pub field_as : ℕ → ℕ → ℕ → Bool → Bool → Role → List ℕ → Bool → Field
field_as w lo hi zero? signed? part techs above? =
    record { width = w; lowest = lo; highest = hi; or_zero = zero?; is_signed = signed?; role = part; used_by = techs; positive = above? }

-- of a width, from lowest to highest
abbrev pub field : ℕ → ℕ → ℕ → Field
field w lo hi = field_as w lo hi false false plain all_technologies false

-- from 0 to a highest value
abbrev pub up_to : ℕ → ℕ → Field
up_to w hi = field w 0 hi

-- any value of four bytes
abbrev pub any4 : Field
any4 = up_to 4 4294967295

-- 0, or lowest to highest
abbrev pub zero_or : ℕ → ℕ → ℕ → Field
zero_or w lo hi = field_as w lo hi true false plain all_technologies false

-- a field of the key
abbrev pub keyed : ℕ → ℕ → ℕ → Field
keyed w lo hi = field_as w lo hi false false key all_technologies false

-- a money amount, from 0
abbrev pub money_to : ℕ → ℕ → Field
money_to w hi = field_as w 0 hi false false money all_technologies false

-- "Prices are -200,000 to 200,000 cents per MWh"; they are money amounts, and "Forecast prices are money amounts" too
abbrev pub price : Field
price = field_as 4 2147283648 2147683648 false true money all_technologies false

-- a field that these technologies use; of any other it is 0
abbrev pub only : List ℕ → Field → Field
only techs f = field_as f.width f.lowest f.highest f.or_zero f.is_signed f.role techs false

-- the same, and where it is used it is above 0
abbrev pub needed : List ℕ → Field → Field
needed techs f = field_as f.width f.lowest f.highest f.or_zero f.is_signed f.role techs true

-- stands for a field that is not there
abbrev pub no_field : Field
no_field = field 0 0 0

-- ---- the rows: two letters, the technologies that may have such a record, the fields after mark and issue

-- a row of these
abbrev pub row : ℕ → ℕ → List ℕ → List Field → Row
row a b techs l = record { first = a; second = b; fields = l; technologies = techs; dates = 0 }

-- stands for a mark that is not there
abbrev pub no_row : Row
no_row = row 0 0 all_technologies []

-- "RS, 31 bytes: technology (1): 1 thermal, 2 nuclear, 3 storage; capacity (2), 0.1 MW, 1 to 20,000; performance factor (2), thousandths, 0 or 500 to 2,000;
-- start heat (4), MJ per start, and no-load heat (4), MJ per hour, each to 20,000,000; incremental fuel (4), mg of uranium per MWh, to 1,000,000; state of
-- charge (4), 0.1 MWh, to 1,000,000; charging efficiency (2), thousandths, 0 or 500 to 1,000; window (2), hours, to 168. No key."
abbrev pub rs : Row
rs =
    row 82 83 all_technologies
    (field 1 1 4  -- 0 technology
    ∷ field 2 1 20000  -- 1 capacity, 0.1 MW
    ∷ needed (thermal ∷ nuclear ∷ []) (zero_or 2 500 2000)  -- 2 performance factor, thousandths
    ∷ only (thermal ∷ []) (up_to 4 20000000)  -- 3 start heat, MJ per start
    ∷ only (thermal ∷ []) (up_to 4 20000000)  -- 4 no-load heat, MJ per hour
    ∷ needed (nuclear ∷ []) (up_to 4 1000000)  -- 5 incremental fuel, mg of uranium per MWh
    ∷ needed (storage ∷ []) (up_to 4 1000000)  -- 6 state of charge, 0.1 MWh
    ∷ needed (storage ∷ []) (zero_or 2 500 1000)  -- 7 charging efficiency, thousandths
    ∷ needed (storage ∷ hydro ∷ []) (up_to 2 4000)  -- 8 window, hours; to 168 unless hydro (`agrees`)
    ∷ [])

-- "HP, 13: key point 1 to 21 (1); output (2), 0.1 MW, to 20,000; heat (4), MJ/h, to 20,000,000."
abbrev pub hp : Row
hp =
    row 72 80 (thermal ∷ [])
    (keyed 1 1 21  -- 0 point
    ∷ up_to 2 20000  -- 1 output, 0.1 MW
    ∷ up_to 4 20000000  -- 2 heat, MJ/h
    ∷ [])

-- "FU, 15: key profile 1 to 4 (1); fuel (4) and emission (4), each to 400,000,000 micro-dollars."; of hydroelectric "with both prices 0"
abbrev pub fu : Row
fu =
    row 70 85 all_technologies
    (keyed 1 1 4  -- 0 profile
    ∷ only (thermal ∷ nuclear ∷ storage ∷ []) (money_to 4 400000000)  -- 1 fuel, micro-dollars per GJ, per kg of uranium or, for storage, per MWh charged
    ∷ only (thermal ∷ []) (money_to 4 400000000)  -- 2 emission, micro-dollars per GJ
    ∷ [])

-- "AD, 17: key profile (1), cost (1): 1 scheduled, 2 unscheduled, 3 consumables and operating, 4 third-party, 5 prorated start-up, and level (1): 1 energy, 2
-- start, 3 no-load, 4 reserve; amount (8), micro-dollars, to 10^12."
abbrev pub ad : Row
ad =
    row 65 68 all_technologies
    (keyed 1 1 4  -- 0 profile
    ∷ keyed 1 1 5  -- 1 cost: 1 scheduled, 2 unscheduled, 3 consumables and operating, 4 third-party, 5 prorated start-up
    ∷ keyed 1 1 4  -- 2 level: 1 energy, 2 start, 3 no-load, 4 reserve
    ∷ money_to 8 1000000000000  -- 3 amount, micro-dollars
    ∷ [])

-- "MM, 24: key profile (1), item 1 to 8 (1); cost C (8), cents, to 10^11; output W (2), 0.1 MW, 1 to 20,000; interval T (4), hours, 1 to 1,000,000; hours per
-- start S (2), 0.1 h, to 10,000."
abbrev pub mm : Row
mm =
    row 77 77 all_technologies
    (keyed 1 1 4  -- 0 profile
    ∷ keyed 1 1 8  -- 1 item
    ∷ money_to 8 100000000000  -- 2 cost C, cents
    ∷ field 2 1 20000  -- 3 output W, 0.1 MW
    ∷ field 4 1 1000000  -- 4 interval T, hours
    ∷ only (thermal ∷ []) (up_to 2 10000)  -- 5 hours per start S, 0.1 h
    ∷ [])

-- "RQ, 16: key request 1 to 16 (1); first and last hour (4 each, first not after last); profile (1), 0 meaning withdrawn, to 4."
abbrev pub rq : Row
rq =
    row 82 81 all_technologies
    (keyed 1 1 16  -- 0 request
    ∷ any4  -- 1 first hour
    ∷ any4  -- 2 last hour
    ∷ up_to 1 4  -- 3 profile, 0 meaning withdrawn
    ∷ [])

-- "HR, 11: key hour 1 to 168 (1); price s."
abbrev pub hr : Row
hr =
    row 72 82 (storage ∷ [])
    (keyed 1 1 168  -- 0 hour
    ∷ price  -- 1 price
    ∷ [])

-- "CH, 16: key interval 1 to 2,016 (2); price s; energy (4), kWh, to 1,000,000."
abbrev pub ch : Row
ch =
    row 67 72 (storage ∷ [])
    (keyed 2 1 2016  -- 0 interval
    ∷ price  -- 1 price
    ∷ up_to 4 1000000  -- 2 energy, kWh
    ∷ [])

-- "TH, 18: key condition 1 to 3 (1): narrow, broad, global, and level 1 to 4 (1); percent (2) to 10,000; margin (4), cents, 4,294,967,295 meaning none; floor
-- (4), cents, any."
abbrev pub th : Row
th =
    row 84 72 all_technologies
    (keyed 1 1 3  -- 0 condition: 1 narrow, 2 broad, 3 global
    ∷ keyed 1 1 4  -- 1 level
    ∷ up_to 2 10000  -- 2 percent
    ∷ any4  -- 3 margin, cents, 4,294,967,295 meaning none
    ∷ any4  -- 4 floor, cents, any
    ∷ [])

-- "a new mark FP, 12 bytes after the usual plan: place (2) 1 to 4,000 as key, price as elsewhere."
abbrev pub fp : Row
fp =
    row 70 80 (hydro ∷ [])
    (keyed 2 1 4000  -- 0 place
    ∷ price  -- 1 price
    ∷ [])

-- "A new mark LC, 10 bytes, no key, holds that cost (4) in micro-dollars, to 2,000,000,000."; "LC is one of the amounts that may be raised"
abbrev pub lc : Row
lc =
    row 76 67 (storage ∷ [])
    (money_to 4 2000000000  -- 0 cost, micro-dollars per MWh
    ∷ [])

-- "Mark AO, 18 bytes, is AD with an owner byte, 1 or 2, first in its key; its amounts may be raised as AD's are."
abbrev pub ao : Row
ao =
    row 65 79 all_technologies
    (keyed 1 1 2  -- 0 owner; 1 profile, 2 cost, 3 level, 4 amount
    ∷ ad.fields)

-- another mark "with a first hour (4) after the issue": other letters, and all else is that mark's
abbrev pub dated : ℕ → ℕ → ℕ → Row → Row
dated a b k x = record { first = a; second = b; fields = x.fields; technologies = x.technologies; dates = k }

-- FV, 19: FU; document 02, request 8
abbrev pub fv : Row
fv = dated 70 86 3 fu

-- AV, 21: AD
abbrev pub av : Row
av = dated 65 86 4 ad

-- MV, 28: MM
abbrev pub mv : Row
mv = dated 77 86 5 mm

-- all of them: "A constant table holds each mark's whole length and key bounds."
unfoldable pub table : List Row
table = rs ∷ hp ∷ fu ∷ ad ∷ mm ∷ rq ∷ hr ∷ ch ∷ th ∷ fp ∷ lc ∷ ao ∷ fv ∷ av ∷ mv ∷ []

-- ---- a mark is named by its place in the table, from 1; 0 is an unknown mark

-- the station itself: "RS, 31 bytes"
abbrev pub RS : ℕ
RS = 1

-- a point of the heat curve: "HP, 13"
abbrev pub HP : ℕ
HP = 2

-- fuel and emission of a profile: "FU, 15"
abbrev pub FU : ℕ
FU = 3

-- a cost that joins a level: "AD, 17"
abbrev pub AD : ℕ
AD = 4

-- an item of major maintenance: "MM, 24"
abbrev pub MM : ℕ
MM = 5

-- a request of a profile for some hours: "RQ, 16"
abbrev pub RQ : ℕ
RQ = 6

-- a price of the window: "HR, 11"
abbrev pub HR : ℕ
HR = 7

-- an interval of charging: "CH, 16"
abbrev pub CH : ℕ
CH = 8

-- a threshold of the test: "TH, 18"
abbrev pub TH : ℕ
TH = 9

-- a price of the forecast: "a new mark FP, 12 bytes"
abbrev pub FP : ℕ
FP = 10

-- the last charging cost: "A new mark LC, 10 bytes, no key"
abbrev pub LC : ℕ
LC = 11

-- a cost of one owner that joins a level: "Mark AO, 18 bytes"
abbrev pub AO : ℕ
AO = 12

-- FU with a first hour
abbrev pub FV : ℕ
FV = 13

-- AD with a first hour
abbrev pub AV : ℕ
AV = 14

-- MM with a first hour
abbrev pub MV : ℕ
MV = 15

-- a mark's number is below this
abbrev pub marks : ℕ
marks = 16

-- and that of a mark without a first hour below this
abbrev pub kinds : ℕ
kinds = 13

-- the row of mark k
unfoldable pub row_of : ℕ → Row
row_of k = get_or (no_row ∷ table) k no_row

-- field i of mark k
unfoldable pub field_of : ℕ → ℕ → Field
field_of k i = get_or (row_of k).fields i no_field
