-- Bytes counted around the end of all bytes, from the low end of a run. Assumes nothing.
use Rattle.std.proofs.Common.{◌≡◌, ℕ, suc, ◌+◌, ◌%◌, ◌<◌, ◌≤◌, Bool, true, false, not, ◌&&◌, leb, ltb, refl, arith, le-leb, leb-false, leb-true}
use borrow.Author.Tests.{lt-leb}
use Rattle.text.specs.Bytes.{between}

module _ (low high b u v : ℕ) (l : low ≤ high) (h : high < 256) (k : b < 256) (i : u < 256) (j : v < 256) (e : (u + low) % 256 ≡ b) (f : (v + low) % 256 ≡ high) where
  by : (s t : Bool) → leb low b ≡ s → leb b high ≡ t → ltb v u ≡ not (s && t)
  by true true p q = lt-leb (suc v) u (omega (arith, e, f, leb-true low b p, leb-true b high q))
  by true false p q = le-leb (suc v) u (omega (arith, e, f, leb-true low b p, leb-false b high q))
  by false t p q = le-leb (suc v) u (omega (arith, e, f, leb-false low b p))

  -- a byte is further than the high end exactly where it does not lie in the run
  pub around : ltb v u ≡ not (between low high b)
  around = by (leb low b) (leb b high) refl refl
