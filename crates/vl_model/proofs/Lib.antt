mod KeyOrders
mod PlacementLaws
mod ReadLaws
mod Rows
mod SortedRows
