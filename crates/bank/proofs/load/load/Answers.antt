-- `bank::load::load` meets its contract: each return takes the case that its tests led to. Assumes nothing.
use borrow.Author.Tests.{eq-eqb, ne_eqb}
use Rattle.bank.specs.Internal.Load.{load_reply, load_words, loaded_words, room_of}
use Rattle.bank.proofs.load.load.Goals as goal

pub returns-in_default : goal.returns-in_default
unfolding load_reply load_words room_of
returns-in_default c =
    let e = ne_eqb _ _ c.in_default.ensures.cases in
    record {
      value = rw c.missing.ensures (simp e);
      settings_after = simp e;
      states_after = simp e;
      marks_after = simp e;
    }

pub returns-in_default-as_mut_array : goal.returns-in_default-as_mut_array
unfolding load_reply load_words room_of
returns-in_default-as_mut_array c =
    let s = c.in-Some.ensures.cases in
    let one = eq-eqb _ _ s.long in
    let two = ne_eqb _ _ c.in_default-as_mut_array.ensures.cases in
    record {
      value = rw c.missing-in_default-as_mut_array.ensures (simp (one, two));
      settings_after = simp (one, two) s.same;
      states_after = simp (one, two);
      marks_after = simp (one, two);
    }

pub returns-in_default-as_mut_array-2 : goal.returns-in_default-as_mut_array-2
unfolding load_reply load_words room_of
returns-in_default-as_mut_array-2 c =
    let s = c.in-Some.ensures.cases in
    let t = c.in-Some-as_mut_array.ensures.cases in
    let one = eq-eqb _ _ s.long in
    let two = eq-eqb _ _ t.long in
    let three = ne_eqb _ _ c.in_default-as_mut_array-2.ensures.cases in
    record {
      value = rw c.missing-in_default-as_mut_array-2.ensures (simp (one, two, three));
      settings_after = simp (one, two, three) s.same;
      states_after = simp (one, two, three) t.same;
      marks_after = simp (one, two, three);
    }

pub returns : goal.returns
unfolding load_reply load_words room_of loaded_words
returns c =
    let p = c.load_blocks.ensures in
    let one = eq-eqb _ _ c.in-Some.ensures.cases.long in
    let two = eq-eqb _ _ c.in-Some-as_mut_array.ensures.cases.long in
    let three = eq-eqb _ _ c.in-Some-as_mut_array-2.ensures.cases.long in
    record {
      value = simp (one, two, three) p.value;
      settings_after = simp (one, two, three) p.settings_after;
      states_after = simp (one, two, three) p.states_after;
      marks_after = simp (one, two, three) p.marks_after;
    }
