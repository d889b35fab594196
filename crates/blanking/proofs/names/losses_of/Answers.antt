-- `blanking::names::losses_of` meets its contract. Assumes nothing.
use native.Mathlib.Omega.{arith}
use Rattle.layout.proofs.RecordLaws.{shortest}
use Rattle.blanking.specs.LostBytes.{codes_lost, country_lost, version_lost, flags_lost}
use Rattle.blanking.proofs.NameLaws.{as_tested}
use Rattle.blanking.proofs.LossLaws.{all_named}
use Rattle.blanking.proofs.names.losses_of.Goals as goal

pub name_codes-codes-requires : goal.name_codes-codes-requires
name_codes-codes-requires c =
    omega (arith, c.requires.0, shortest c.args.way.from)

pub name_country-country-requires : goal.name_country-country-requires
name_country-country-requires c =
    omega (arith, c.requires.0, shortest c.args.way.from)

pub name_version-requires : goal.name_version-requires
name_version-requires c =
    omega (arith, c.requires.0, shortest c.args.way.from)

pub name_flags-requires : goal.name_flags-requires
name_flags-requires c =
    omega (arith, c.requires.0, shortest c.args.way.from)

pub returns : goal.returns
returns c =
    let line = c.args.line.now in
    let back = c.is_leaving-back.ensures in
    all_named c.args.way.from c.args.way.to line c.requires.0 c.requires.1 _ _ _ _ _
    (as_tested codes_lost _ _ c.is_change.ensures line 1 64 _ c.name_codes-codes.ensures)
    (as_tested country_lost _ _ c.is_crossing.ensures line 1 64 _ c.name_country-country.ensures)
    (as_tested version_lost _ _ back line 1 64 _ c.name_version.ensures)
    (as_tested flags_lost _ _ back line 65 37 _ c.name_flags.ensures)
    c.name_last.ensures
