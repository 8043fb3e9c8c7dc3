use Rattle.std.proofs.Common.{◌≡◌, Option, Some, None, option_map, Result, Ok, Err, sym, ap, ◌∙◌, subst}
use Rattle.serde_json.specs.Data.{Data, Items}
use Rattle.serde_json.specs.View.{view, items_view}
use Rattle.slate_script_json.specs.Fields.{◌>>=◌, array_in, only}
use Rattle.slate_script_events.specs.declared.script.Script.{Script}
use Rattle.slate_script_events.specs.declared.script.ScriptError.{ScriptError}
use Rattle.slate_script_events.specs.declared.script.ScriptPlace.{ScriptPlace}
use Rattle.slate_script_events.specs.declared.script.ScriptPlace.TheVariants as place
use Rattle.slate_script.specs.Scripts.{Reads, and_then, at_place, databases_from, events_from, parts_in, script_in, top_in}
use Rattle.slate_script.proofs.reading.parts.Goals as goal

-- the whole is read where its parts are there
by_parts : (r : Result Script ScriptError) (o : Option (Unit {0})) (a b : Option Items) (x : Unit {0}) (ds es : Items) → at_place place.Top o ≡ Ok x → a ≡ Some ds → b ≡ Some es → Reads r (parts_in (ds, es))
    → Reads r (and_then (at_place place.Top (o >>= λ _. a >>= λ ds. b >>= λ es. Some (ds, es))) parts_in)
by_parts r None a b x ds es known e f h = absurd cc
by_parts r (Some u) a b x ds es known e f h =
    subst (λ (p : Option Items). Reads r (and_then (at_place place.Top (p >>= λ ds. b >>= λ es. Some (ds, es))) parts_in)) (sym e)
    (subst (λ (q : Option Items). Reads r (and_then (at_place place.Top (q >>= λ es. Some (ds, es))) parts_in)) (sym f) h)

pub returns : goal.returns
unfolding script_in top_in
returns c =
    by_parts c.both.result _ _ _ _ (items_view c.in-Some-items_taken.database_values.items) (items_view c.deref.result.now)
    (c.in_ok-at.ensures _ c.only.ensures)
    (sym c.items_taken.ensures ∙ ap (λ o. option_map (λ v. items_view v.items) o) c.in-Some-items_taken.is)
    (sym c.array_of.ensures ∙ ap (λ o. option_map (λ v. items_view v.now.items) o) c.in-Some.is ∙ ap (λ vs. Some (items_view vs)) (sym c.deref.ensures.value))
    (c.both.ensures _ _ c.databases.ensures c.events-events.ensures)
