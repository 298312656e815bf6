-- What the state of the reader of interfaces says, and what an interface declares, without where it lies in memory.
use Rattle.std.specs.Prelude.{map}
use Rattle.interface_text.specs.Kinds.{kind_of}
use Rattle.interface_text.specs.Interfaces.{DeclaredInterface, DeclaredProcedure}
use Rattle.interface_text.specs.Rules.{Head, Reading}
use Rattle.interface_text.specs.Senses.{senses_of}
use Rattle.interface_text.specs.Views.{typing_of}
use Rattle.interface_text.specs.declared.heading.Heading.{Heading}
use Rattle.interface_text.specs.declared.interface.Interface.{Interface}
use Rattle.interface_text.specs.declared.interface.Procedure.{Procedure}
use Rattle.interface_text.specs.declared.reader.Reader.{Reader}

abbrev pub procedure_view : Procedure → DeclaredProcedure
procedure_view p = record { name = p.name; line = p.line; raises = p.raises; arguments = map kind_of p.arguments; reply = map kind_of p.reply }

abbrev pub interface_view : Interface → DeclaredInterface
interface_view i = record { name = i.name; exceptions = i.exceptions; procedures = map procedure_view i.procedures }

abbrev pub head_of : Heading → Head
head_of h = record {
  line = h.line;
  raises = h.raises.items;
  arguments = map kind_of h.arguments.items;
  reply = map kind_of h.reply.items;
  parameters = h.parameters.set.keys;
  way = h.way;
  fresh = h.fresh;
}

abbrev pub reading_of : Reader → Reading
reading_of r = record {
  expect = r.expect;
  within = r.within;
  name = r.name;
  subject = r.subject;
  declared = senses_of r.declared;
  exceptions = r.exceptions.items;
  number = r.number;
  procedures = map procedure_view r.procedures.items;
  heading = head_of r.heading;
  types = typing_of r.types;
}
