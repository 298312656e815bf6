-- What a text declares is within the limits.
use Rattle.std.proofs.Common.{◌≡◌, ◌≤◌, ◌<◌, ◌+◌, ℕ, Bool, false, cond, List, [], ◌∷◌, ◌++◌, length, map, Option, Some, None, Result, Ok, Err, refl, sym, subst, arith}
use Rattle.std.specs.Prelude.{nat_le, All}
use Rattle.std.proofs.lemmas.Bool.Decides.{nat_tests}
use Rattle.std.proofs.lemmas.List.{length-append, length-map}
use Rattle.std.proofs.lemmas.List.Elements.{All-nil, All-push, All-head, All-tail, All-cons}
use Rattle.interface_tokens.specs.Names.{is_among, is_same}
use Rattle.interface_tokens.specs.Outcome.{Outcome, ◌>>=◌}
use Rattle.interface_tokens.specs.Syntax.{act_of}
use Rattle.interface_tokens.specs.Tokens.{tokens_of}
use Rattle.interface_text.specs.Depths.{depth, deepest, DeclaresShallow, IsShallow, IsWithinLimits}
use Rattle.interface_text.specs.Interfaces.{DeclaredInterface}
use Rattle.interface_text.specs.Kinds.{Kind, row}
use Rattle.interface_text.specs.Meanings as meanings
use Rattle.interface_text.specs.Meanings.{Sense, a_type, an_exception, a_procedure, look_up, exception_in}
use Rattle.interface_text.specs.Rules as rules
use Rattle.interface_text.specs.Rules.{Head, Reading, begin_exception, begin_procedure, declare_type, declare_exception, declare_procedure, end_interface, declare_of, add_parameter, raised, add_raise, end_procedure, step_of, typed, typed_in, end_type, settle_of, stepped, ended, do_act, act_or_fault, take, take_all, at_end, interface_of, finish, beginning}
use Rattle.interface_text.specs.States.{procedure_view, interface_view}
use Rattle.interface_text.specs.Texts.{Declares, first_line, read_text}
use Rattle.interface_text.specs.TypeRules as types
use Rattle.interface_text.specs.TypeRules.{Typing, Settling, whole, next, is_over, stop, step as type_step, end as type_end}
use Rattle.interface_text.specs.declared.interface.Interface.{Interface}
use Rattle.interface_text.specs.declared.interface.Procedure.{Procedure}
use Rattle.interface_text.specs.declared.reader.Within.{Within}
use Rattle.interface_text.specs.declared.reader.Within.TheVariants as within
use Rattle.interface_tokens.specs.declared.place.Place.{Place}
use Rattle.interface_tokens.specs.declared.fault.Cause.{Cause}
use Rattle.interface_tokens.specs.declared.fault.Cause.TheVariants as cause
use Rattle.interface_tokens.specs.declared.token.Spot.{Spot}
use Rattle.interface_tokens.specs.declared.scanner.Ending.{Ending}
use Rattle.interface_tokens.specs.declared.scanner.Ending.TheVariants as ending
use Rattle.interface_tokens.specs.declared.expect.Expect.{Expect}
use Rattle.interface_tokens.specs.declared.expect.Expect.TheVariants as expect
use Rattle.interface_tokens.specs.declared.expect.AtTop.TheVariants as at_top
use Rattle.interface_tokens.specs.declared.expect.AtProcedure.{AtProcedure}
use Rattle.interface_tokens.specs.declared.expect.AtProcedure.TheVariants as at_procedure
use Rattle.interface_tokens.specs.declared.expect.AtType.{AtType}
use Rattle.interface_tokens.specs.declared.expect.Way.{Way}
use Rattle.interface_tokens.specs.declared.expect.Way.TheVariants as way_of
use Rattle.interface_tokens.specs.declared.expect.Act.{Act}
use Rattle.interface_tokens.specs.declared.expect.Act.TheVariants as act
use Rattle.interface_tokens.specs.declared.expect.Declare.{Declare}
use Rattle.interface_tokens.specs.declared.expect.Declare.TheVariants as declare
use Rattle.interface_tokens.specs.declared.expect.InProcedure.{InProcedure}
use Rattle.interface_tokens.specs.declared.expect.InProcedure.TheVariants as step
use Rattle.interface_text.proofs.Keeping.{fine, bad, same, not_bad, unless, where_so, bound}
use Rattle.interface_text.proofs.Levels.{deepest_more, Settles, Kept, Ended, AreKnown, parts_keep, ends_keep, declared_known, unless_so}
use Rattle.interface_text.proofs.Asking.{under_way, Open, Needs, row_asks}

-- what holds wherever a text has been read to
record Sound (r : Reading) : Type 0 where
  pub shallow : All DeclaresShallow r.procedures
  pub arguments : deepest (row r.heading.arguments) ≤ 16
  pub reply : deepest (row r.heading.reply) ≤ 16
  pub names : AreKnown r.declared
  pub within : r.types.deepest ≤ 16
  pub opens : Open r.expect (length r.procedures) r.within r.types

-- the same state but for what is expected
abbrev Count : Reading → Within → ℕ
Count r w = length r.procedures + under_way w

refused : Reading → Place → Cause → Place × Cause
refused r place c = stop r.types.start r.types.total place c

now : (m n : Reading) → fine m ≡ fine n → Sound m → Sound n
now m n h s = subst Sound (same m n h) s

unless_now : (r m n : Reading) (b : Bool) (place : Place) (c : Cause) → cond b (bad (refused r place c)) (fine m) ≡ fine n → Sound m → Sound n
unless_now r m n b place c h s = now m n (unless b (refused r place c) (fine m) n h) s

room : (n : ℕ) → nat_le 256 n ≡ false → n < 256
room n h = grind (arith, nat_tests)

declares : (r n : Reading) (d : Declare) (place : Place) → declare_of r d place ≡ fine n → Sound r
    → Needs (act.Declare d) (length r.procedures) r.within r.types → Sound n
unfolding declare_of begin_exception begin_procedure declare_type declare_exception declare_procedure end_interface refused
declares r n declare.BeginException place h s o =
    unless_now r (record r { number = length r.exceptions + 1; expect = expect.Top at_top.ExceptionName }) n
    (nat_le rules.max_exceptions (length r.exceptions)) place cause.TooMany h
    (record { shallow = s.shallow; arguments = s.arguments; reply = s.reply; names = s.names; within = s.within; opens = o })
declares r n declare.BeginProcedure place h s o =
    let m : Reading = record r { heading = record (r.heading) { line = place.line }; expect = expect.Procedure at_procedure.Name } in
    let x = unless_so (nat_le rules.max_procedures (length r.procedures)) (refused r place cause.TooMany) (fine m) n h in
    now m n x.1 (record {
      shallow = s.shallow;
      arguments = s.arguments;
      reply = s.reply;
      names = s.names;
      within = s.within;
      opens = room (length r.procedures) x.0;
    })
declares r n (declare.Type name) place h s o =
    unless_now r (record r { subject = name; expect = expect.Top at_top.Equals }) n (rules.is_declared r name) place cause.Duplicate h
    (record { shallow = s.shallow; arguments = s.arguments; reply = s.reply; names = s.names; within = s.within; opens = o })
declares r n declare.Equals place h s o = now (rules.begin_type (record r { types = types.restarted r.types }) within.Definition) n h (record {
  shallow = s.shallow;
  arguments = s.arguments;
  reply = s.reply;
  names = s.names;
  within = omega arith;
  opens = (omega (arith, o), tt);
})
declares r n (declare.Exception name) place h s o =
    unless_now r (record r {
      exceptions = r.exceptions ++ name ∷ [];
      declared = meanings.declare r.declared name (an_exception r.number);
      expect = expect.Top at_top.Semicolon;
    }) n (rules.is_declared r name) place cause.Duplicate h (record {
      shallow = s.shallow;
      arguments = s.arguments;
      reply = s.reply;
      names = declared_known r.declared name (an_exception r.number) s.names tt;
      within = s.within;
      opens = o;
    })
declares r n (declare.Procedure name) place h s o =
    unless_now r (record r {
      declared = meanings.declare r.declared name a_procedure;
      subject = name;
      heading = rules.head_in r.heading.line;
      types = types.restarted r.types;
      expect = expect.Procedure at_procedure.Open;
    }) n (rules.is_declared r name) place cause.Duplicate h (record {
      shallow = s.shallow;
      arguments = omega arith;
      reply = omega arith;
      names = declared_known r.declared name a_procedure s.names tt;
      within = omega arith;
      opens = o;
    })
declares r n (declare.EndInterface name) place h s o =
    now (rules.at_the_top r at_top.FullStop) n
    (where_so (is_same name r.name) (refused r place cause.EndName) (fine (rules.at_the_top r at_top.FullStop)) n h)
    (record { shallow = s.shallow; arguments = s.arguments; reply = s.reply; names = s.names; within = s.within; opens = o })

-- a state in a procedure
in_procedure : (r : Reading) (at : AtProcedure) → Sound r → length r.procedures < 256 → Sound (rules.in_the_procedure r at)
in_procedure r at s o =
    record { shallow = s.shallow; arguments = s.arguments; reply = s.reply; names = s.names; within = s.within; opens = o }

-- a state that differs in the procedure that is read, but not in its types
headed : (r : Reading) (h : Head) (at : AtProcedure) → h.arguments ≡ r.heading.arguments → h.reply ≡ r.heading.reply → Sound r
    → length r.procedures < 256 → Sound (record r { heading = h; expect = expect.Procedure at })
headed r h at a b s o = record {
  shallow = s.shallow;
  arguments = subst (λ (ks : List Kind). deepest (row ks) ≤ 16) (sym a) s.arguments;
  reply = subst (λ (ks : List Kind). deepest (row ks) ≤ 16) (sym b) s.reply;
  names = s.names;
  within = s.within;
  opens = o;
}

raised_now : (r n : Reading) (place : Place) (o : Option ℕ) → raised r place o ≡ fine n → Sound r → length r.procedures < 256 → Sound n
raised_now r n place (Some m) h s o =
    now (record r { heading = record (r.heading) { raises = r.heading.raises ++ m ∷ [] }; expect = expect.Procedure at_procedure.MoreRaises }) n h
    (headed r (record (r.heading) { raises = r.heading.raises ++ m ∷ [] }) at_procedure.MoreRaises refl refl s o)
raised_now r n place None h s o = absurd (not_bad (stop r.types.start r.types.total place cause.Unknown) n h)

parameter_now : (r n : Reading) (h : Head) (name : List ℕ) (place : Place) → add_parameter (rules.with_heading r h) name place ≡ fine n
    → h.arguments ≡ r.heading.arguments → h.reply ≡ r.heading.reply → Sound r → length r.procedures < 256 → Sound n
unfolding add_parameter refused
parameter_now r n d name place h a b s o =
    unless_now r (record r { heading = rules.with_parameter d name; expect = expect.Procedure at_procedure.MoreParameters }) n
    (is_among name d.parameters) place cause.Duplicate h (headed r (rules.with_parameter d name) at_procedure.MoreParameters a b s o)

steps : (r n : Reading) (s : InProcedure) (place : Place) → step_of r s place ≡ fine n → Sound r → length r.procedures < 256 → Sound n
unfolding step_of add_raise end_procedure
steps r n (step.Pass w) place h s o =
    now (record r { heading = rules.passed r.heading w 0; expect = expect.Procedure (rules.behind w) }) n h
    (headed r (rules.passed r.heading w 0) (rules.behind w) refl refl s o)
steps r n (step.FirstParameter name) place h s o = parameter_now r n (rules.passed r.heading way_of.Value 0) name place h refl refl s o
steps r n (step.Parameter name) place h s o = parameter_now r n r.heading name place h refl refl s o
steps r n step.TypeParameters place h s o =
    now (rules.begin_type (record r { types = record (r.types) { times = r.heading.fresh } }) within.Parameters) n h (record {
      shallow = s.shallow;
      arguments = s.arguments;
      reply = s.reply;
      names = s.names;
      within = s.within;
      opens = (omega (arith, o), tt);
    })
steps r n step.TypeResult place h s o =
    now (rules.begin_type (record r { heading = rules.passed r.heading way_of.Out 1; types = record (r.types) { times = 1 } }) within.Answer) n h (record {
      shallow = s.shallow;
      arguments = s.arguments;
      reply = s.reply;
      names = s.names;
      within = s.within;
      opens = (omega (arith, o), tt);
    })
steps r n (step.Raise name) place h s o = raised_now r n place (exception_in (look_up name r.declared)) h s o
steps r n step.End place h s o =
    let p = rules.procedure_of r.heading r.subject in
    now (record r { procedures = r.procedures ++ p ∷ []; heading = rules.head_in 0; expect = expect.Top at_top.Declaration }) n h (record {
      shallow = All-push DeclaresShallow r.procedures p s.shallow (record { arguments = s.arguments; reply = s.reply });
      arguments = omega arith;
      reply = omega arith;
      names = s.names;
      within = s.within;
      opens = omega (arith, o, length-append r.procedures (p ∷ []));
    })

-- each name of a group has the type
typed_arguments : (d : Head) (w : Way) (k : Kind) → deepest (row d.arguments) ≤ 16 → depth k ≤ 16 → deepest (row (typed d w k).arguments) ≤ 16
typed_arguments d way_of.Value k a l = omega (arith, a, l, deepest_more d.arguments d.fresh k)
typed_arguments d way_of.In k a l = omega (arith, a, l, deepest_more d.arguments d.fresh k)
typed_arguments d way_of.Out k a l = a
typed_arguments d way_of.Var k a l = omega (arith, a, l, deepest_more d.arguments d.fresh k)

typed_reply : (d : Head) (w : Way) (k : Kind) → deepest (row d.reply) ≤ 16 → depth k ≤ 16 → deepest (row (typed d w k).reply) ≤ 16
typed_reply d way_of.Value k a l = a
typed_reply d way_of.In k a l = a
typed_reply d way_of.Out k a l = omega (arith, a, l, deepest_more d.reply d.fresh k)
typed_reply d way_of.Var k a l = omega (arith, a, l, deepest_more d.reply d.fresh k)

-- what holds while a type is read, whatever is expected
record Typed (r : Reading) : Type 0 where
  pub shallow : All DeclaresShallow r.procedures
  pub arguments : deepest (row r.heading.arguments) ≤ 16
  pub reply : deepest (row r.heading.reply) ≤ 16
  pub names : AreKnown r.declared
  pub within : r.types.deepest ≤ 16
  pub count : length r.procedures + under_way r.within ≤ 256

typed_now : (r : Reading) (w : Within) (k : Kind) → Typed r → length r.procedures + under_way w ≤ 256 → depth k ≤ r.types.deepest → Sound (typed_in r w k)
typed_now r within.Definition k s c l = record {
  shallow = s.shallow;
  arguments = s.arguments;
  reply = s.reply;
  names = declared_known r.declared r.subject (a_type (record { kind = k; depth = r.types.deepest; parts = r.types.total })) s.names l;
  within = s.within;
  opens = omega (arith, c);
}
typed_now r within.Parameters k s c l = record {
  shallow = s.shallow;
  arguments = typed_arguments r.heading r.heading.way k s.arguments (omega (arith, l, s.within));
  reply = typed_reply r.heading r.heading.way k s.reply (omega (arith, l, s.within));
  names = s.names;
  within = s.within;
  opens = omega (arith, c);
}
typed_now r within.Answer k s c l = record {
  shallow = s.shallow;
  arguments = typed_arguments r.heading r.heading.way k s.arguments (omega (arith, l, s.within));
  reply = typed_reply r.heading r.heading.way k s.reply (omega (arith, l, s.within));
  names = s.names;
  within = s.within;
  opens = omega (arith, c);
}

ended_now : (r n : Reading) (k : Kind) → end_type r k ≡ fine n → Typed r → depth k ≤ r.types.deepest → Sound n
unfolding end_type
ended_now r n k h s l =
    now (typed_in r r.within k) n (unless (is_over r.types.total) (r.types.start, cause.TooMany) (fine (typed_in r r.within k)) n h)
    (typed_now r r.within k s s.count l)

settled_now : (r n : Reading) (x : Settling) → settle_of r x ≡ fine n → Typed r → Settles x r.types → Sound n
settled_now r n (whole k) h s l = ended_now r n k h s l
settled_now r n (next (expect.Type at)) h s l = now (record r { expect = expect.Type at }) n h (record {
  shallow = s.shallow;
  arguments = s.arguments;
  reply = s.reply;
  names = s.names;
  within = s.within;
  opens = (s.count, l);
})
settled_now r n (next (expect.Top at)) h s l = absurd l
settled_now r n (next (expect.Procedure at)) h s l = absurd l

-- the type under way becomes another
retyped : (r : Reading) (t : Typing) → Sound r → length r.procedures + under_way r.within ≤ 256 → t.deepest ≤ 16 → Typed (record r { types = t })
retyped r t s c w = record { shallow = s.shallow; arguments = s.arguments; reply = s.reply; names = s.names; within = w; count = c }

end_now : (r n : Reading) (o : Outcome (Typing × Settling)) → ended r o ≡ fine n → Sound r → length r.procedures + under_way r.within ≤ 256
    → ((x : Typing × Settling) → o ≡ fine x → Ended x) → Sound n
end_now r n (Ok x) h s c f = let e = f x refl in settled_now (record r { types = x.0 }) n x.1 h (retyped r x.0 s c e.within) e.settles
end_now r n (Err e) h s c f = absurd (not_bad e n h)

step_now : (r n : Reading) (o : Outcome (Typing × AtType)) → stepped r o ≡ fine n → Sound r → length r.procedures + under_way r.within ≤ 256
    → ((x : Typing × AtType) → o ≡ fine x → Kept x.1 x.0) → Sound n
step_now r n (Ok x) h s c f = let e = f x refl in now (record r { types = x.0; expect = expect.Type x.1 }) n h (record {
  shallow = s.shallow;
  arguments = s.arguments;
  reply = s.reply;
  names = s.names;
  within = e.within;
  opens = (c, e.ready);
})
step_now r n (Err e) h s c f = absurd (not_bad e n h)

acts : (r n : Reading) (a : Act) (place : Place) → do_act r a place ≡ fine n → Sound r → Needs a (length r.procedures) r.within r.types → Sound n
unfolding do_act
acts r n (act.Go e) place h s o = now (record r { expect = e }) n h
    (record { shallow = s.shallow; arguments = s.arguments; reply = s.reply; names = s.names; within = s.within; opens = o })
acts r n (act.Declare d) place h s o = declares r n d place h s o
acts r n (act.Procedure p) place h s o = steps r n p place h s o
acts r n (act.Step p) place h s o = step_now r n (type_step r.types p place) h s o.0 (λ x e. parts_keep r.types p place x e s.within o.1)
acts r n (act.End p) place h s o =
    end_now r n (type_end r.types r.declared p place) h s o.0 (λ x e. ends_keep r.types r.declared p place x e s.names s.within o.1)

taken : (r n : Reading) (spot : Spot) (o : Result Act Cause) → act_of r.expect spot.token ≡ o → act_or_fault r spot.place o ≡ fine n → Sound r → Sound n
taken r n spot (Ok a) e h s = acts r n a spot.place h s (row_asks (length r.procedures) r.within r.types spot.token a r.expect e s.opens)
taken r n spot (Err c) e h s = absurd (not_bad _ n h)

took : (r n : Reading) (spot : Spot) → take r spot ≡ fine n → Sound r → Sound n
unfolding take
took r n spot h s = taken r n spot (act_of r.expect spot.token) refl h s

took_all : (r n : Reading) (spots : List Spot) → take_all r spots ≡ fine n → Sound r → Sound n
took_all r n [] h s = now r n h s
took_all r n (x ∷ xs) h s =
    let b = bound (take r x) (λ (m : Reading). take_all m xs) n h in
    took_all b.0 n xs b.2 (took r b.0 x b.1 s)

begins : (name : List ℕ) → Sound (beginning name)
begins name = record {
  shallow = All-nil DeclaresShallow;
  arguments = omega arith;
  reply = omega arith;
  names = tt;
  within = omega arith;
  opens = omega arith;
}

ended_within : (r : Reading) (e : Expect) (place : Place) (i : DeclaredInterface) → at_end r e place ≡ fine i
    → All DeclaresShallow r.procedures → Open e (length r.procedures) r.within r.types → IsWithinLimits i
ended_within r (expect.Top at_top.Nothing) place i h s o = subst IsWithinLimits (same (interface_of r) i h) (record { few = o; shallow = s })
ended_within r (expect.Top at_top.Declaration) place i h s o = absurd (not_bad _ i h)
ended_within r (expect.Top at_top.TypeName) place i h s o = absurd (not_bad _ i h)
ended_within r (expect.Top at_top.Equals) place i h s o = absurd (not_bad _ i h)
ended_within r (expect.Top at_top.ExceptionName) place i h s o = absurd (not_bad _ i h)
ended_within r (expect.Top at_top.Semicolon) place i h s o = absurd (not_bad _ i h)
ended_within r (expect.Top at_top.EndName) place i h s o = absurd (not_bad _ i h)
ended_within r (expect.Top at_top.FullStop) place i h s o = absurd (not_bad _ i h)
ended_within r (expect.Procedure at) place i h s o = absurd (not_bad _ i h)
ended_within r (expect.Type at) place i h s o = absurd (not_bad _ i h)

finished : (r : Reading) (e : Ending) (place : Place) (i : DeclaredInterface) → finish r e place ≡ fine i → Sound r → IsWithinLimits i
unfolding finish
finished r ending.Character place i h s = absurd (not_bad _ i h)
finished r ending.OpenComment place i h s = absurd (not_bad _ i h)
finished r ending.Text place i h s = ended_within r r.expect place i h s.shallow s.opens

pub declared_within : (text : List ℕ) (i : DeclaredInterface) → Declares text i → IsWithinLimits i
unfolding read_text
declared_within text i h =
    let tk = tokens_of text in
    let ends = λ (r : Reading). finish r tk.ending tk.end in
    let l = bound (first_line tk) (λ (line : List ℕ × List Spot). take_all (beginning line.0) line.1 >>= ends) i h in
    let r = bound (take_all (beginning l.0.0) l.0.1) ends i l.2 in
    finished r.0 tk.ending tk.end i r.2 (took_all (beginning l.0.0) r.0 l.0.1 r.1 (begins l.0.0))

-- the same of an interface as it is in memory
viewed : (ps : List Procedure) → All DeclaresShallow (map procedure_view ps) → All IsShallow ps
viewed [] h = All-nil IsShallow
viewed (p ∷ ps) h =
    let s = All-head DeclaresShallow (procedure_view p) (map procedure_view ps) h in
    All-cons IsShallow p ps (record { arguments = s.arguments; reply = s.reply }) (viewed ps (All-tail DeclaresShallow (procedure_view p) (map procedure_view ps) h))

pub read_shallow : (text : List ℕ) (i : Interface) → Declares text (interface_view i) → All IsShallow i.procedures
read_shallow text i h = viewed i.procedures (declared_within text (interface_view i) h).shallow

pub read_few : (text : List ℕ) (i : Interface) → Declares text (interface_view i) → length i.procedures ≤ 256
read_few text i h = omega (arith, (declared_within text (interface_view i) h).few, length-map i.procedures procedure_view)
