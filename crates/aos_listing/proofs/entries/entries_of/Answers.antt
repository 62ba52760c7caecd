use Rattle.std.proofs.Common.{◌++◌, map, ◌∙◌}
use Rattle.aos_typed.specs.Seen.{seen_module, seen_object}
use Rattle.aos_listing.specs.Listing.{numbered, module_entries, type_entries}
use Rattle.aos_listing.specs.Seen.{seen_entries}
use Rattle.aos_listing.proofs.entries.entries_of.Goals as goal

pub returns : goal.returns
returns c =
    let first = c.in_ok-put_modules.ensures
    ∙ (λ i. seen_entries (c.new-all.ensures.items i) ++ numbered module_entries 0 (map seen_module (c.as_slice.ensures.value i))) in
    c.in_ok-put_types.ensures ∙ (λ i. first i ++ numbered type_entries 0 (map seen_object (c.as_slice-2.ensures.value i)))
