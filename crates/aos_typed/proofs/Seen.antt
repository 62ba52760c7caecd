-- A row of statements is seen as their list is, and so are those of arms and of arguments.
use Rattle.std.proofs.Common.{◌≡◌, refl, sym, ap, ◌∙◌, ℤ, Bool}
use Rattle.std.specs.declared.vec.Vec.{Vec}
use Rattle.std.specs.declared.boxed.Box.{Box}
use Rattle.std.specs.declared.alloc.Global.{Global}
use Rattle.aos_base.specs.declared.text.Pos.{Pos}
use Rattle.aos_base.specs.declared.number.Width.{Width}
use Rattle.aos_typed.specs.declared.tree.TPlace.{TPlace}
use Rattle.aos_typed.specs.declared.tree.TArgument.{TArgument}
use Rattle.aos_typed.specs.declared.tree.TCallee.{TCallee}
use Rattle.aos_typed.specs.declared.tree.TExpr.{TExpr, Row_of-TArgument, end_of-TArgument, more_of-TArgument}
use Rattle.aos_typed.specs.declared.tree.TArgument.TheViews as expr
use Rattle.aos_typed.specs.declared.tree.TArgument.TheBlock.{items_hidden-the_row-TArgument-0, hidden-the_row-TArgument-0, items-the_row-TArgument}
use Rattle.aos_typed.specs.declared.tree.TArm.{TArm}
use Rattle.aos_typed.specs.declared.tree.TCase.{TCase}
use Rattle.aos_typed.specs.declared.tree.TElse.{TElse}
use Rattle.aos_typed.specs.declared.tree.TElse.TheViews as view
use Rattle.aos_typed.specs.declared.tree.TElse.TheBlock.{items_hidden-the_row-TStat-0, hidden-the_row-TStat-0, items-the_row-TStat, items_shown-the_row-TStat-0, items_hidden-the_row-TArm-1, hidden-the_row-TArm-1, items-the_row-TArm, items_hidden-the_row-TCase-2, hidden-the_row-TCase-2, items-the_row-TCase}
use Rattle.aos_typed.specs.declared.tree.TStat.{TStat, Row_of-TStat, end_of-TStat, more_of-TStat, Row_of-TArm, end_of-TArm, more_of-TArm, Row_of-TCase, end_of-TCase, more_of-TCase}
use Rattle.aos_typed.specs.Program.{Function, Stats, If, Case, While, Repeat, Loop, For, Block, With, WithRecord, Then, Arm, Cases, Else, OfLabels}
use Rattle.aos_typed.specs.Seen.{seen_place, seen_argument, seen_arguments, seen_list, seen_callee, seen_expr, seen_stat, seen_row, seen_arms, seen_cases, seen_else, seen_stats, arms_of, cases_of}

row_seen : {m : _} (row : Row_of-TStat m) → seen_row row ≡ seen_stats (items-the_row-TStat m row)
row_seen end_of-TStat = refl
row_seen (more_of-TStat s ss) = ap (λ l. Then (seen_stat s) l) (row_seen ss)

body_seen : (body : Vec TStat Global) → seen_row (hidden-the_row-TStat-0 body) ≡ seen_stats body.items
body_seen body = row_seen (hidden-the_row-TStat-0 body) ∙ ap seen_stats (items_hidden-the_row-TStat-0 body)

arms_seen : {m : _} (row : Row_of-TArm m) (otherwise : Stats) → seen_arms row otherwise ≡ arms_of (items-the_row-TArm m row) otherwise
arms_seen end_of-TArm otherwise = refl
arms_seen (more_of-TArm test shape body more) otherwise =
    λ j. Arm (seen_expr test) ((row_seen body ∙ ap seen_stats (sym (items_shown-the_row-TStat-0 shape body))) j) (arms_seen more otherwise j)

cases_seen : {m : _} (row : Row_of-TCase m) (otherwise : Cases) → seen_cases row otherwise ≡ cases_of (items-the_row-TCase m row) otherwise
cases_seen end_of-TCase otherwise = refl
cases_seen (more_of-TCase labels shape body more) otherwise =
    λ j. OfLabels labels.items ((row_seen body ∙ ap seen_stats (sym (items_shown-the_row-TStat-0 shape body))) j) (cases_seen more otherwise j)

pub if_seen : (at : Pos) (arms : Vec TArm Global) (body : Vec TStat Global) → seen_stat (view.If at arms body) ≡ If at (arms_of arms.items (seen_stats body.items))
if_seen at arms body =
    ap (λ o. If at (seen_arms (hidden-the_row-TArm-1 arms) o)) (body_seen body)
    ∙ ap (λ l. If at l) (arms_seen (hidden-the_row-TArm-1 arms) (seen_stats body.items) ∙ ap (λ l. arms_of l (seen_stats body.items)) (items_hidden-the_row-TArm-1 arms))

pub case_seen : (at : Pos) (e : TExpr) (cases : Vec TCase Global) (otherwise : TElse) → seen_stat (view.Case at e cases otherwise) ≡ Case at (seen_expr e) (cases_of cases.items (seen_else otherwise))
case_seen at e cases otherwise =
    ap (λ l. Case at (seen_expr e) l) (cases_seen (hidden-the_row-TCase-2 cases) (seen_else otherwise) ∙ ap (λ l. cases_of l (seen_else otherwise)) (items_hidden-the_row-TCase-2 cases))

pub else_seen : (body : Vec TStat Global) → seen_else (view.Else body) ≡ Else (seen_stats body.items)
else_seen body = ap (λ l. Else l) (body_seen body)

pub while_seen : (at : Pos) (e : TExpr) (body : Vec TStat Global) → seen_stat (view.While at e body) ≡ While at (seen_expr e) (seen_stats body.items)
while_seen at e body = ap (λ l. While at (seen_expr e) l) (body_seen body)

pub repeat_seen : (at : Pos) (body : Vec TStat Global) (e : TExpr) → seen_stat (view.Repeat at body e) ≡ Repeat at (seen_stats body.items) (seen_expr e)
repeat_seen at body e = ap (λ l. Repeat at l (seen_expr e)) (body_seen body)

pub loop_seen : (at : Pos) (body : Vec TStat Global) → seen_stat (view.Loop at body) ≡ Loop at (seen_stats body.items)
loop_seen at body = ap (λ l. Loop at l) (body_seen body)

pub for_seen : (at : Pos) (w : Width) (p : TPlace) (from to : Box TExpr Global) (step : ℤ) (body : Vec TStat Global) → seen_stat (view.For at w p from to step body) ≡ For at w (seen_place p) (seen_expr from.value) (seen_expr to.value) step (seen_stats body.items)
for_seen at w p from to step body = ap (λ l. For at w (seen_place p) (seen_expr from.value) (seen_expr to.value) step l) (body_seen body)

pub block_seen : (at : Pos) (exclusive : Bool) (body : Vec TStat Global) → seen_stat (view.Block at exclusive body) ≡ Block at exclusive (seen_stats body.items)
block_seen at exclusive body = ap (λ l. Block at exclusive l) (body_seen body)

pub with_seen : (at : Pos) (e : TExpr) (body : Vec TStat Global) → seen_stat (view.With at e body) ≡ With at (seen_expr e) (seen_stats body.items)
with_seen at e body = ap (λ l. With at (seen_expr e) l) (body_seen body)

pub with_record_seen : (at : Pos) (p : TPlace) (body : Vec TStat Global) → seen_stat (view.WithRecord at p body) ≡ WithRecord at (seen_place p) (seen_stats body.items)
with_record_seen at p body = ap (λ l. WithRecord at (seen_place p) l) (body_seen body)

arguments_seen : {m : _} (row : Row_of-TArgument m) → seen_arguments row ≡ seen_list (items-the_row-TArgument m row)
arguments_seen end_of-TArgument = refl
arguments_seen (more_of-TArgument a as') = ap (λ l. seen_argument a l) (arguments_seen as')

pub function_seen : (c : TCallee) (as' : Vec TArgument Global) → seen_expr (expr.Function c as') ≡ Function (seen_callee c) (seen_list as'.items)
function_seen c as' =
    ap (λ l. Function (seen_callee c) l) (arguments_seen (hidden-the_row-TArgument-0 as') ∙ ap seen_list (items_hidden-the_row-TArgument-0 as'))
