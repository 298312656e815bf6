-- How far the writing of an array of bytes has come.
use Rattle.std.proofs.Common.{◌≡◌, ◌<◌, ◌≤◌, ◌+◌, ℕ, suc, List, ◌∷◌, ◌++◌, length, drop, get_or, drop-cons, add-one, Option, Some, Ok, Err, ap, sym, ◌∙◌}
use Rattle.std.proofs.lemmas.List.{drop_all}
use Rattle.marshal_plans.specs.declared.basic.Basic.TheVariants.{Byte}
use Rattle.marshal_plans.specs.declared.fault.PutFault.{PutFault}
use Rattle.marshal_plans.specs.declared.fault.PutFault.TheVariants.{Shape, Room}
use Rattle.marshal_plans.specs.declared.value.Value.{Value}
use Rattle.marshal_plans.specs.Data.{Data, datum_of, data_of, behind_bytes}
use Rattle.marshal_plans.specs.Encoding.{enc, each, joined}
use Rattle.marshal_plans.specs.Forms.{number}
use Rattle.marshal_plans.specs.Writing.{Wrote, Puts}
use Rattle.marshal_plans.proofs.ByteGroups.{front_coded}
use Rattle.marshal_plans.proofs.Placing.{joined_assoc, joined_nothing, wrote_more}

abbrev codes : Data → Option (List ℕ)
codes ds = each (enc (number Byte)) ds

-- the bytes of some values are written, and those of the others are still to be
pub record BytesPut (all : Data) (others : List Value) (old new : List ℕ) (at place : ℕ) : Type 0 where
  pub bytes : List ℕ
  pub same : each (enc (number Byte)) all ≡ joined (Some bytes) (each (enc (number Byte)) (data_of others))
  pub wrote : Wrote old new at place bytes

pub begun : (bs : List ℕ) (others : List Value) (old new : List ℕ) (at place : ℕ) → ((i : ℕ) → get_or bs i 0 < 256)
    → Wrote old new at place bs → BytesPut (behind_bytes bs (data_of others)) others old new at place
begun bs others old new at place small w = record { bytes = bs; same = front_coded bs (data_of others) small; wrote = w }

module _ (all : Data) (values : List Value) (i : ℕ) (old new : List ℕ) (at place : ℕ)
    (g : BytesPut all (drop i values) old new at place) (v : Value) (within : i < length values) (item : v ≡ get_or values i v) where
  cut : drop i values ≡ v ∷ drop (i + 1) values
  cut =
      drop-cons values i v within ∙ ap (λ (w : Value). w ∷ drop (suc i) values) (sym item)
      ∙ ap (λ (k : ℕ). v ∷ drop k values) (sym (add-one i))

  next_coded : codes all ≡ joined (Some g.bytes) (joined (enc (number Byte) (datum_of v)) (codes (data_of (drop (i + 1) values))))
  next_coded = g.same ∙ ap (λ (l : List Value). joined (Some g.bytes) (codes (data_of l))) cut

  pub one_more : (newer : List ℕ) (end : ℕ) → Puts new newer place (Ok end) (enc (number Byte) (datum_of v)) → BytesPut all (drop (i + 1) values) old newer at end
  one_more newer end p = record {
    bytes = g.bytes ++ p.0;
    same = next_coded
        ∙ ap (λ (c : Option (List ℕ)). joined (Some g.bytes) (joined c (codes (data_of (drop (i + 1) values))))) p.1
        ∙ sym (joined_assoc (Some g.bytes) (Some p.0) (codes (data_of (drop (i + 1) values))));
    wrote = wrote_more old new newer at place end g.bytes p.0 g.wrote p.2;
  }

  pub no_byte : (newer : List ℕ) (e : PutFault) → Puts new newer place (Err e) (enc (number Byte) (datum_of v)) → Puts old newer at (Err e) (codes all)
  no_byte newer Shape p =
      next_coded ∙ ap (λ (c : Option (List ℕ)). joined (Some g.bytes) (joined c (codes (data_of (drop (i + 1) values))))) p
  no_byte newer Room p = absurd p

pub done : (all : Data) (values : List Value) (i : ℕ) (old new : List ℕ) (at place : ℕ) → BytesPut all (drop i values) old new at place
    → length values ≤ i → Puts old new at (Ok place) (codes all)
done all values i old new at place g over =
    (g.bytes, g.same ∙ ap (λ (l : List Value). joined (Some g.bytes) (codes (data_of l))) (drop_all i values over) ∙ joined_nothing g.bytes, g.wrote)
