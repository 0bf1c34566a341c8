-- Where no record has a first hour, the index of all is that of every hour.
use mathlib.Core.Path.{sym, subst}
use mathlib.Core.List.{List}
use Prim.Native.Nat.{ℕ}
use Rattle.records.specs.Dossier.{records}
use Rattle.station.specs.InForce.{come, Undated}
use Rattle.station.proofs.Undated.{undated-come}
use Rattle.index.specs.Holding.{IndexOf}

pub undated-at : {d ix : List ℕ} → IndexOf (records d) d ix → Undated d → (h : ℕ) → IndexOf (come h (records d)) d ix
undated-at {d} {ix} i e h = subst (λ (l : List (List ℕ)). IndexOf l d ix) (sym (undated-come h e)) i
