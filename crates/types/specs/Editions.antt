-- What a caller chooses, by name.
use Rattle.types.specs.declared.Choices.{Choices}
use Rattle.types.specs.declared.Edition.TheVariants.{E2004, E2019}
use Rattle.types.specs.declared.Reading.TheVariants.{Old, Standard}

-- "2019 is document 01 as it stands"; "The old reading stays the default"
abbrev pub document01 : Choices
document01 = record { edition = E2019; reading = Old }

abbrev pub edition2004 : Choices
edition2004 = record { edition = E2004; reading = Old }

-- request W8
abbrev pub standard : Choices
standard = record { edition = E2019; reading = Standard }

abbrev pub standard2004 : Choices
standard2004 = record { edition = E2004; reading = Standard }
