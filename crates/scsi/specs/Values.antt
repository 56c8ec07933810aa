-- What sense values that were looked up mean.
use Rattle.model.specs.Senses
use Rattle.scsi.specs.declared.sense.SenseValues.{SenseValues}

abbrev pub values_of : SenseValues → Senses.SenseValues
values_of v = record { key = v.key; code = v.code; qualifier = v.qualifier; information = v.information }
