-- The JSON value that a plain value stands for.
use Rattle.serde_json.specs.Data.{Data, null, number, string, unsigned}
use Rattle.piece_files.specs.declared.plain.Plain.{Plain}
use Rattle.piece_files.specs.declared.plain.Plain.TheVariants.{Null, Text, Number}

abbrev pub data_of : Plain → Data
data_of Null = null
data_of (Text s) = string s.now
data_of (Number n) = number (unsigned n)
