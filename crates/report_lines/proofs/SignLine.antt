-- The line of a call sign, which is none where the call sign is empty. Assumes nothing.
use mathlib.Core.Path.{◌≡◌}
use mathlib.Core.List.{List, [], ◌∷◌, ◌++◌}
use Prim.Native.Nat.{ℕ}
use native.Mathlib.Omega.{arith}
use lib.ListN.{length}
use Rattle.text.specs.Bytes.{bytes_of}
use Rattle.wording.specs.declared.sheet.Sheet.{Sheet}
use Rattle.wording.specs.Puts.{Adds}
use Rattle.wording.specs.Wording.{decimal, line_end}
use Rattle.wording.proofs.PutLaws.{unchanged, within}
use Rattle.report_lines.specs.Says.{line_most}
use Rattle.report_lines.specs.Sentences.{call_sign_line}

module _ (n : ℕ) where
  pub sign_none : (sign : List ℕ) (s : Sheet) → length sign ≡ 0 → Adds (call_sign_line n sign) line_most s s
  unfolding call_sign_line
  sign_none [] s e = within (omega arith) (unchanged s)
  sign_none (b ∷ sign) s e = absurd (omega arith)

  pub sign_put : (sign : List ℕ) {before after : Sheet} → (length sign ≡ 0 → ⊥) →
      Adds (decimal n ++ bytes_of " call sign " ++ sign ++ line_end) line_most before after → Adds (call_sign_line n sign) line_most before after
  unfolding call_sign_line
  sign_put [] e p = absurd (e (omega arith))
  sign_put (b ∷ sign) e p = p
