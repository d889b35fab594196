-- The editions: which character in column 111 names each, its number, its length, and its last element. Assumes nothing.
use Rattle.std.specs.Prelude.{ℕ, Option, Some, None, cond, eqb}
use Rattle.layout.specs.declared.Edition.{Edition}
use Rattle.layout.specs.declared.Edition.TheVariants.{One, Three, Four}

-- the edition that a character names: '1', '3', '4', and no other
abbrev pub edition_of : ℕ → Option Edition
edition_of b = cond (eqb b 49) (Some One) (cond (eqb b 51) (Some Three) (cond (eqb b 52) (Some Four) None))

-- the edition that is asked for by its number: 1, 3, 4, and no other
abbrev pub asked : ℕ → Option Edition
asked n = cond (eqb n 1) (Some One) (cond (eqb n 3) (Some Three) (cond (eqb n 4) (Some Four) None))

-- the number that an edition goes by
abbrev pub edition_number : Edition → ℕ
edition_number One = 1
edition_number Three = 3
edition_number Four = 4

-- the most columns and the most elements that records of any edition have
abbrev pub longest_record : ℕ
longest_record = 159

abbrev pub last_element : ℕ
last_element = 101

-- each edition has a length of its own, and a last element
abbrev pub length_of : Edition → ℕ
length_of One = 131
length_of Three = longest_record
length_of Four = longest_record

abbrev pub last_of : Edition → ℕ
last_of One = 85
last_of Three = last_element
last_of Four = last_element
