mod FirstItem
