-- The keys of graph files: their texts, what may stand at them, and what stands for a missing one.
use Rattle.std.specs.Prelude.{ℕ, ℤ, pos, negsuc, List, Bool, true, false, codes}
use Rattle.block_parameters.specs.declared.fault.Parameter.{Parameter}
use Rattle.block_parameters.specs.declared.fault.Parameter.TheVariants as parameters
use Rattle.block_parameters.specs.Fault.{parameter_text}
use Rattle.kind_schema.specs.declared.key.Key.{Key}
use Rattle.kind_schema.specs.declared.key.Key.TheVariants as keys
use Rattle.kind_schema.specs.declared.key.ValueForm.{ValueForm}
use Rattle.kind_schema.specs.declared.key.ValueForm.TheVariants.{Text, Number, Numbers, Tables, Choice}

-- the text of a key
abbrev pub text_of : Key → List ℕ
text_of keys.Block = codes "block"
text_of keys.Connect = codes "connect"
text_of keys.Feed = codes "feed"
text_of keys.Name = codes "name"
text_of keys.Kind = codes "kind"
text_of (keys.Parameter p) = parameter_text p
text_of keys.Tags = codes "tags"
text_of keys.Multiple = codes "multiple"
text_of keys.Capacity = codes "capacity"
text_of keys.From = codes "from"
text_of keys.To = codes "to"
text_of keys.FromPort = codes "from_port"
text_of keys.ToPort = codes "to_port"
text_of keys.Source = codes "source"
text_of keys.Items = codes "items"
text_of keys.Marks = codes "tags"
text_of keys.MarkAt = codes "at"
text_of keys.MarkKey = codes "key"
text_of keys.MarkValue = codes "value"

-- what may stand at a parameter
abbrev pub parameter_form : Parameter → ValueForm
parameter_form parameters.ItemType = Text
parameter_form parameters.To = Text
parameter_form parameters.Map = Numbers
parameter_form parameters.Taps = Numbers
parameter_form parameters.Lengths = Numbers
parameter_form parameters.Values = Numbers
parameter_form parameters.Places = Numbers
parameter_form parameters.Next = Numbers
parameter_form parameters.Output = Numbers
parameter_form parameters.Order = Text
parameter_form parameters.Code = Text
parameter_form _ = Number

-- what may stand at a key
abbrev pub form_of : Key → ValueForm
form_of keys.Block = Tables
form_of keys.Connect = Tables
form_of keys.Feed = Tables
form_of keys.Name = Text
form_of keys.Kind = Text
form_of (keys.Parameter p) = parameter_form p
form_of keys.Tags = Choice
form_of keys.Multiple = Number
form_of keys.Capacity = Number
form_of keys.From = Text
form_of keys.To = Text
form_of keys.FromPort = Number
form_of keys.ToPort = Number
form_of keys.Source = Text
form_of keys.Items = Numbers
form_of keys.Marks = Tables
form_of keys.MarkAt = Number
form_of keys.MarkKey = Text
form_of keys.MarkValue = Number

-- whether a block must have the parameter
abbrev pub is_needed_parameter : Parameter → Bool
is_needed_parameter parameters.Shift = false
is_needed_parameter parameters.Decimation = false
is_needed_parameter parameters.Interpolation = false
is_needed_parameter parameters.Order = false
is_needed_parameter parameters.Offset = false
is_needed_parameter parameters.Start = false
is_needed_parameter parameters.End = false
is_needed_parameter _ = true

-- whether a table must have the key
abbrev pub is_needed : Key → Bool
is_needed keys.Block = false
is_needed keys.Connect = false
is_needed keys.Feed = false
is_needed keys.Name = true
is_needed keys.Kind = true
is_needed (keys.Parameter p) = is_needed_parameter p
is_needed keys.Tags = false
is_needed keys.Multiple = false
is_needed keys.Capacity = false
is_needed keys.From = true
is_needed keys.To = true
is_needed keys.FromPort = false
is_needed keys.ToPort = false
is_needed keys.Source = true
is_needed keys.Items = false
is_needed keys.Marks = false
is_needed keys.MarkAt = true
is_needed keys.MarkKey = true
is_needed keys.MarkValue = true

-- the number that stands for a missing one
abbrev pub missing_parameter : Parameter → ℤ
missing_parameter parameters.Decimation = pos 1
missing_parameter parameters.Interpolation = pos 1
missing_parameter parameters.Start = negsuc 0
missing_parameter parameters.End = negsuc 0
missing_parameter _ = pos 0

-- the same, of any key
abbrev pub missing : Key → ℤ
missing (keys.Parameter p) = missing_parameter p
missing keys.Multiple = pos 1
missing keys.Capacity = pos 4096
missing _ = pos 0
