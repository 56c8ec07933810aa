-- What Access data that were read mean.
use Rattle.model.specs.Parts
use Rattle.formats.specs.declared.access.Access.{Access}

abbrev pub access_of : Access → Parts.Access
access_of a = record { target = a.target; idle = a.idle_ms; gone = a.gone_ms }
