use Rattle.interface_text.specs.TypeRules.{step}
use Rattle.interface_text.proofs.types.Types.step.Goals as goal

pub returns-in-BeginValues : goal.returns-in-BeginValues
unfolding step
returns-in-BeginValues c = rw c.in-BeginValues.is (c.expecting.ensures _ _ c.begin_values.ensures)

pub returns-in-Value : goal.returns-in-Value
unfolding step
returns-in-Value c = rw c.in-Value.is (c.expecting-in-Value.ensures _ _ c.add_value.ensures)

pub returns-in-BeginArray : goal.returns-in-BeginArray
unfolding step
returns-in-BeginArray c = rw c.in-BeginArray.is (c.expecting-in-BeginArray.ensures _ _ c.begin.ensures)

pub returns-in-Length : goal.returns-in-Length
unfolding step
returns-in-Length c = rw c.in-Length.is (c.expecting-in-Length.ensures _ _ c.set_length.ensures)

pub returns-in-BeginRecord : goal.returns-in-BeginRecord
unfolding step
returns-in-BeginRecord c = rw c.in-BeginRecord.is (c.expecting-in-BeginRecord.ensures _ _ c.begin_record.ensures)

pub returns-in-Field : goal.returns-in-Field
unfolding step
returns-in-Field c = rw c.in-Field.is (c.expecting-in-Field.ensures _ _ c.add_field.ensures)

pub returns-in-TypeFields : goal.returns-in-TypeFields
unfolding step
returns-in-TypeFields c = rw c.in-TypeFields.is (c.expecting-in-TypeFields.ensures _ _ c.type_fields.ensures)

pub returns-in-NextFields : goal.returns-in-NextFields
unfolding step
returns-in-NextFields c = rw c.in-NextFields.is (c.expecting-in-NextFields.ensures _ _ c.next_fields.ensures)
