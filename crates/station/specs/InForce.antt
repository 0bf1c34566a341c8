-- What a query sees: "At an hour, the highest issue whose first hour has come counts", and of AO the records of the owner that it names. All that is said
-- of a query is said of the records in force for it.
use Rattle.std.specs.Prelude.{◌≡◌, Bool, false, ◌&&◌, ◌||◌, not, List, ℕ, leb, eqb}
use Rattle.lists.specs.Lists.{Each, those}
use Rattle.records.specs.Table.{AO}
use Rattle.records.specs.Record.{mark, is_dated, kind, datable, since, issue, key_of, told}
use Rattle.records.specs.Dossier.{records}
use Rattle.station.specs.Current.{current}

-- ---- at an hour

-- of some records those whose first hour has come
unfoldable pub come : ℕ → List (List ℕ) → List (List ℕ)
come h l = those (λ r. leb (since r) h) l

-- whether a record of some counts at an hour: its first hour has come, and it has the issue of the current one of those that have
unfoldable pub counts_at : ℕ → List (List ℕ) → List ℕ → Bool
counts_at h all r = leb (since r) h && eqb (issue r) (issue (current (kind r) (key_of r) (come h all)))

-- whether it "counts at some hour": if at any, then at its first (the laws `counts_some` and `counts-declared`)
unfoldable pub counts : List (List ℕ) → List ℕ → Bool
counts all r = counts_at (since r) all r

-- no record of a dossier has a mark with a first hour
abbrev pub Undated : List ℕ → Type 0
Undated d = Each (λ r. is_dated (mark r) ≡ false) (records d)

-- ---- for an owner

-- whether a record speaks to an owner: those of AO to the owner that they name, and all others, the common ones, to both
unfoldable pub speaks_to : ℕ → List ℕ → Bool
speaks_to o r = not (eqb (kind r) AO) || eqb (told AO 0 r) o

-- no record of a dossier names an owner
abbrev pub Unowned : List ℕ → Type 0
Unowned d = Each (λ r. eqb (kind r) AO ≡ false) (records d)

-- ---- a query

-- what is asked for: an hour, and "A query names an owner"
pub record Query : Type 0 where
  pub hour : ℕ
  pub owner : ℕ

-- both at once
abbrev pub query : ℕ → ℕ → Query
query h o = record { hour = h; owner = o }

-- the records in force for a query: of those that have come "that owner's AO" and the common ones
unfoldable pub in_force : Query → List (List ℕ) → List (List ℕ)
in_force q l = those (speaks_to q.owner) (come q.hour l)

-- whether queries see other records of a kind than other queries do: it may have first hours, or it names an owner
abbrev pub varies : ℕ → Bool
varies k = datable k || eqb k AO
