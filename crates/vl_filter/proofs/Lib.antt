mod BitLaws
mod BuildLaws
mod PlaceLaws
mod WorkedRow
